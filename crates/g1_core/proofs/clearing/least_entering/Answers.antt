use Rattle.std.specs.Prelude.{◌∷◌}
use Rattle.g1_core.specs.{[], None, sym, subst, IsLeastOn}
use Rattle.g1_core.specs.Table.{Table}
use Rattle.g1_core.proofs.{least_first, read_table}
use Rattle.g1_core.proofs.clearing.least_entering.Goals as goal

pub returns-in-Some-clause-least : goal.returns-in-Some-clause-least
returns-in-Some-clause-least c = rw (← c.members-members.ensures.cards) (least_first _ c.layout-layout.ensures.cells.shape c.args.region c.members-members.result.now c.in_ok-first.first c.in-Some.slot
    c.in_ok-first.ensures.least c.in-Some.ensures.on (c.in-Some.ensures.least c.args.sets.now.pairs))

pub least_after-requires-clause-none : goal.least_after-requires-clause-none
least_after-requires-clause-none c = λ pairs. subst (λ (t : Table). IsLeastOn t (c.in_ok-first.first ∷ []) c.args.region None)
    (sym (read_table c.args.heap.now c.entering_on.new.heap _ pairs c.entering_on.ensures.heap)) (c.in_default.ensures.least pairs)

pub returns-clause-least : goal.returns-clause-least
returns-clause-least c = rw (← c.members-members.ensures.cards, ← read_table c.args.heap.now c.entering_on.new.heap _ c.args.sets.now.pairs c.entering_on.ensures.heap) (c.least_after.ensures.least c.args.sets.now.pairs)
