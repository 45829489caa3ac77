use Rattle.std.specs.Prelude.{◌∷◌}
use Rattle.g1_core.specs.{◌∙◌, ℕ, [], Option, sym, ap, subst, not, eqb-true, Shape, region_of_card, slot_at, table_from, IsLeastOn}
use Rattle.g1_core.proofs.{own_card, lies_outside}
use Rattle.g1_core.proofs.EnteringLemmas.{least_none, least_next}
use Rattle.g1_core.proofs.clearing.entering_on.Goals as goal

pub returns-then-eq-clause-least : goal.returns-then-eq-clause-least
returns-then-eq-clause-least c = λ pairs. own_card (table_from c.args.heap.now pairs) c.layout-layout.ensures.cells.shape c.args.card c.args.region
    (sym (ap (λ (l : Shape). region_of_card l c.args.card) c.layout-layout.ensures.layout) ∙ sym c.region_of_card.ensures.quotient ∙ eqb-true _ _ (sym c.eq.ensures ∙ c.if-eq.true))

pub returns-in_err-offset-clause-least : goal.returns-in_err-offset-clause-least
returns-in_err-offset-clause-least c = λ pairs.
    subst (λ (o : Option ℕ). IsLeastOn (table_from c.args.heap.now pairs) (c.args.card ∷ []) c.args.region o) (sym c.from_residual.ensures) (least_none c.args.heap.now c.args.card c.args.region c.layout-layout.ensures.cells.shape pairs c.in_err-offset.ensures.next)

pub returns-clause-least : goal.returns-clause-least
returns-clause-least c = λ pairs.
    least_next c.args.heap.now c.args.card c.args.region c.layout-layout.ensures.cells.shape pairs c.in_ok-offset.offset c.in_ok-offset.field-0-1 c.slot_at.result
    (lies_outside c.layout-layout.result c.args.heap.now.layout c.args.card c.region_of_card.result c.args.region (not c.eq.result) (ap not c.eq.ensures) (ap not c.if-eq.false) c.region_of_card.ensures.quotient c.layout-layout.ensures.layout)
    c.in_ok-offset.ensures.next (c.slot_at.ensures.slot ∙ ap (λ (l : Shape). slot_at l c.args.card c.in_ok-offset.offset) c.layout-layout.ensures.layout)
