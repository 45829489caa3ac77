use Rattle.g1_core.specs.{rules, ◌∙◌, ap, sym, refl, Some, true≢false, Out, Held, Cells, with_mark}
use Rattle.g1_core.proofs.{none_offered, dirty_pending, turned_cold, turned_kept, turned_out, IsTurnedTo}
use Rattle.g1_core.proofs.machinery.Core.turn.Goals as goal

pub returns-then-not-dirty-clause-offer : goal.returns-then-not-dirty-clause-offer
returns-then-not-dirty-clause-offer c = none_offered c.self.inside.memory.heap c.self.inside.memory.sets c.self.inside.hot c.self.inside.memory.pending c.self.inside.config c.args.self.now c.self.invariant c.self.view_is c.args.card (λ e. true≢false (sym (c.is_dirty-dirty.ensures.dirty.1 e) ∙ c.if-not-dirty.true))

pub refine-requires-clause-some : goal.refine-requires-clause-some
refine-requires-clause-some c = dirty_pending c.self.inside.memory.heap c.self.inside.memory.sets c.self.inside.hot c.self.inside.memory.pending c.self.inside.config c.args.self.now c.self.invariant c.self.view_is c.args.card (c.is_dirty-dirty.ensures.dirty.0 c.if-not-dirty.false)

pub refine-requires-in-Out-clause-some : goal.refine-requires-in-Out-clause-some
refine-requires-in-Out-clause-some c = dirty_pending c.self.inside.memory.heap c.self.inside.memory.sets c.self.inside.hot c.self.inside.memory.pending c.self.inside.config c.args.self.now c.self.invariant c.self.view_is c.args.card (c.is_dirty-dirty.ensures.dirty.0 c.if-not-dirty.false)

-- what the turn of a dirty card leaves, by what the ring answers
cold : (c : goal.After-offer) → IsTurnedTo c.args.self.now c.args.card (Some c.would-offer.result) c.refine.new.self.heap c.refine.new.self.sets c.offer.new.self c.refine.new.self.pending
cold c = turned_cold c.self.inside.memory.heap c.self.inside.memory.sets c.self.inside.hot c.self.inside.memory.pending c.self.inside.config c.args.self.now c.self.invariant c.self.view_is c.args.card (c.is_dirty-dirty.ensures.dirty.0 c.if-not-dirty.false) c.would-offer.result c.would-offer.ensures.answer c.refine.new.self.heap c.refine.new.self.sets c.offer.new.self c.refine.new.self.pending c.offer.ensures.ring
    c.self.inside.memory.heap.layout.slots c.in-Cold.is c.in_ok-refine-in-Cold.ensures.cleaned c.in_ok-refine-in-Cold.ensures.pairs c.in_ok-refine-in-Cold.ensures.layout c.in_ok-refine-in-Cold.ensures.less

pub invariant_of-self-in-Cold : goal.invariant_of-self-in-Cold
invariant_of-self-in-Cold c = (cold c).core

pub returns-in-Cold : goal.returns-in-Cold
returns-in-Cold c = record { offer = (cold c).offer; state = (cold c).state; reads = search rules; err = search rules; tried = search rules; settings = search rules }

kept : (c : goal.After-offer-in-Kept) → IsTurnedTo c.args.self.now c.args.card (Some c.would-offer.result) c.set_mark.new.self c.self.inside.memory.sets c.offer-in-Kept.new.self c.self.inside.memory.pending
kept c = turned_kept c.self.inside.memory.heap c.self.inside.memory.sets c.self.inside.hot c.self.inside.memory.pending c.self.inside.config c.args.self.now c.self.invariant c.self.view_is c.args.card (c.is_dirty-dirty.ensures.dirty.0 c.if-not-dirty.false) c.would-offer.result c.would-offer.ensures.answer c.set_mark.new.self c.self.inside.memory.sets c.offer-in-Kept.new.self c.self.inside.memory.pending c.offer-in-Kept.ensures.ring
    c.in-Kept.is c.set_mark.ensures refl refl

pub invariant_of-self-in-Kept : goal.invariant_of-self-in-Kept
invariant_of-self-in-Kept c = (kept c).core

pub returns-in-Kept : goal.returns-in-Kept
returns-in-Kept c = record { offer = (kept c).offer; state = (kept c).state; reads = search rules; err = search rules; tried = search rules; settings = search rules }

out : (c : goal.After-offer-in-Out) → IsTurnedTo c.args.self.now c.args.card (Some (Out c.in-Out.oldest)) c.set_mark-in-Out.new.self c.refine-in-Out.new.self.sets c.offer-in-Out.new.self c.refine-in-Out.new.self.pending
out c = turned_out c.self.inside.memory.heap c.self.inside.memory.sets c.self.inside.hot c.self.inside.memory.pending c.self.inside.config c.args.self.now c.self.invariant c.self.view_is c.args.card (c.is_dirty-dirty.ensures.dirty.0 c.if-not-dirty.false) (Out c.in-Out.oldest) (sym c.in-Out.is ∙ c.would-offer.ensures.answer) c.set_mark-in-Out.new.self c.refine-in-Out.new.self.sets c.offer-in-Out.new.self c.refine-in-Out.new.self.pending c.offer-in-Out.ensures.ring
    c.self.inside.memory.heap.layout.slots c.in-Out.oldest refl (c.set_mark-in-Out.ensures ∙ ap (λ (h : Cells). with_mark h c.args.card Held) c.in_ok-refine-in-Out.ensures.cleaned) c.in_ok-refine-in-Out.ensures.pairs c.in_ok-refine-in-Out.ensures.layout c.in_ok-refine-in-Out.ensures.less

pub invariant_of-self-in-Out : goal.invariant_of-self-in-Out
invariant_of-self-in-Out c = (out c).core

pub returns-in-Out : goal.returns-in-Out
returns-in-Out c = record { offer = (out c).offer; state = (out c).state; reads = search rules; err = search rules; tried = search rules; settings = search rules }
