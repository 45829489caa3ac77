use Rattle.std.specs.Prelude.{◌≡◌, ◌+◌}
use Rattle.g1_core.specs.{◌∙◌, ap, refl, sym, arith, card_of, Logged, Cells, with_ref}
use Rattle.g1_core.specs.Machine.{Machine}
use Rattle.g1_core.proofs.{logged_at, plain_at, logged_some, logged_none, IsStored, few_cards, stored_step, stored_later}
use Rattle.g1_core.proofs.machinery.Core.store_unlogged.Goals as goal

pub overflow_add-self : goal.overflow_add-self
overflow_add-self c = omega (arith, few_cards c.self.inside.memory.heap c.self.inside.memory.sets c.self.inside.hot c.self.inside.memory.pending c.self.invariant)

-- the card that a logged store dirties
its : (c : goal.After-self-1) → (c.kind-kind.result.0 ≡ Logged) × (c.in-Some.card ≡ card_of c.args.self.now.state.table.layout c.args.slot)
its c = logged_some c.kind-kind.result.0 c.in-Some.card _ (sym c.in-Some.is ∙ c.kind-kind.ensures.dirtied)

-- what a store leaves that is logged
logged : (c : goal.After-self-1) → IsStored c.set-2.new.self c.self.inside.memory.sets c.self.inside.hot (c.self.inside.memory.pending + 1) c.self.inside.config c.args.self.now c.args.slot c.args.target c.kind-kind.result.0
logged c =
    logged_at c.self.inside.memory.heap c.self.inside.memory.sets c.self.inside.hot c.self.inside.memory.pending c.self.inside.config c.args.self.now c.self.invariant c.self.view_is
    c.args.slot c.args.target c.kind-kind.result.0 c.kind-kind.ensures.kind c.requires.target c.set-2.new.self (c.self.inside.memory.pending + 1) c.in-Some.card c.args.self.now.state.table.layout (its c).0
    (sym (ap (λ (m : Machine). m.state.table.layout) c.self.view_is)) (its c).1 (rw c.in-Some.is at c.kind-kind.ensures.within) refl (c.set-2.ensures ∙ ap (λ (h : Cells). with_ref h c.args.slot c.args.target) c.set_mark.ensures)

pub invariant_of-self-2 : goal.invariant_of-self-2
invariant_of-self-2 c = (logged c).core

pub returns : goal.returns
returns c =
    let t = logged c in
    record { did = t.did; dirtied = sym c.in-Some.is ∙ c.kind-kind.ensures.dirtied; step = λ caller. stored_step caller _ _ _ _ _ t.did (c.requires.slot, c.requires.target); later = stored_later _ _ _ _ _ _ _ _ _ t }

plain : (c : goal.After-set) → IsStored c.set.new.self c.self.inside.memory.sets c.self.inside.hot c.self.inside.memory.pending c.self.inside.config c.args.self.now c.args.slot c.args.target c.kind-kind.result.0
plain c = plain_at c.self.inside.memory.heap c.self.inside.memory.sets c.self.inside.hot c.self.inside.memory.pending c.self.inside.config c.args.self.now c.self.invariant c.self.view_is
    c.args.slot c.args.target c.kind-kind.result.0 c.kind-kind.ensures.kind c.requires.target c.set.new.self (logged_none c.kind-kind.result.0 _ (sym c.in_default.is ∙ c.kind-kind.ensures.dirtied)) c.set.ensures

pub invariant_of-self : goal.invariant_of-self
invariant_of-self c = (plain c).core

pub returns-in_default : goal.returns-in_default
returns-in_default c =
    let t = plain c in
    record { did = t.did; dirtied = sym c.in_default.is ∙ c.kind-kind.ensures.dirtied; step = λ caller. stored_step caller _ _ _ _ _ t.did (c.requires.slot, c.requires.target); later = stored_later _ _ _ _ _ _ _ _ _ t }
