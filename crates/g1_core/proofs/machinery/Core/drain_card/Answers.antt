use Rattle.std.specs.Prelude.{◌≡◌}
use Rattle.g1_core.specs.{sym, subst, true, is_dirty}
use Rattle.g1_core.specs.Machine.{Machine}
use Rattle.g1_core.proofs.DrainCardLemmas.{IsDrainedTo, card_drained, dirty_inside}
use Rattle.g1_core.proofs.machinery.Core.drain_card.Goals as goal

pub refine-requires : goal.refine-requires
refine-requires c =
    let within = dirty_inside c.self.inside.memory.heap c.self.inside.memory.sets c.self.inside.hot c.self.inside.memory.pending c.self.invariant c.args.card (subst (λ (m : Machine). is_dirty m.state c.args.card ≡ true) (sym c.self.view_is) c.requires) in
    record { card = within.0; layouts = c.self.invariant.layouts; some = within.1 }

drained : (c : goal.In_ok-refine) → IsDrainedTo c.args.self.now c.args.card c.args.self.now.state.ring c.refine.new.self.heap c.refine.new.self.sets c.self.inside.hot c.refine.new.self.pending c.self.inside.config
drained c = card_drained c.self.inside.memory.heap c.self.inside.memory.sets c.self.inside.hot c.self.inside.memory.pending c.self.inside.config c.args.self.now c.self.invariant c.self.view_is c.refine.new.self.heap c.refine.new.self.sets c.refine.new.self.pending c.args.card
    c.in_ok-refine.ensures.cleaned c.in_ok-refine.ensures.pairs c.in_ok-refine.ensures.layout c.in_ok-refine.ensures.less c.requires

pub invariant_of-self-2 : goal.invariant_of-self-2
invariant_of-self-2 c = (drained c).core

pub returns-clause-ok : goal.returns-clause-ok
returns-clause-ok c = (drained c).drained
