use Rattle.std.specs.Prelude.{◌≡◌, ◌<◌, ◌*◌, ◌∷◌}
use Rattle.g1_core.specs.{◌∙◌, inl, inr, List, ℕ, [], Some, None, length, refl, ap, subst, sym, arith, not, slice_get, cases_eq, eqb-false, ne_eqb, not-true, true≢false, slice_get_read, Shape, card_count, table_from, IsLeastOn, AreRead, take_all}
use Rattle.g1_core.proofs.{IsLeastFrom, from_all, next_past, next_none, next_known, next_some, read_other, read_skipped, read_but_one, read_layout, before_but}
use Rattle.g1_core.proofs.clearing.least_after.Goals as goal
use Rattle.g1_core.proofs.clearing.least_after.Goals.{then-ne+then-number-past+in-Some, then-ne+then-number-past+in_default, else-ne, else-ne-via-then-ne+else-number-past, else-ne-via-else-ne}

pub loop-card-preserved : goal.loop-card-preserved
loop-card-preserved c =
    let at : slice_get c.args.cards.now c.loop-card.card-index ≡ Some c.card-item.result = slice_get_read c.args.cards.now (length c.args.cards.now) c.loop-card.card-index c.card-item.result refl c.loop-card-test.true c.card-item.is in
    let was : AreRead c.args.heap.now c.loop-card.heap (before_but c.loop-card.card-index c.requires.first.0 * c.args.heap.now.layout.slots) = c.loop-card.invariant.read c.requires.first in
    elim c.if-ne.branch [
      | then-ne+then-number-past+in-Some w ↦ record {
        least = λ pairs. next_some c.args.heap.now c.loop-card.heap _ was pairs c.layout-layout.ensures.cells.shape c.args.region c.args.cards.now c.loop-card.card-index c.card-item.result at
            c.loop-card.past c.loop-card.least (c.loop-card.invariant.least pairs) c.if-ne.past c.if-ne.least
            (omega (arith, w.number.ensures, w.if-number-past.true)) w.in-Some.slot w.in-Some.ensures.on w.in-Some.ensures.least (w.past-is ∙ w.number-past.ensures) w.least-is;
        read = λ first. rw w.heap-is (read_other c.args.heap.now c.loop-card.heap c.args.cards.now c.args.first first c.loop-card.card-index (c.loop-card.invariant.read first) c.card-item.result w.entering_on.new.heap at
            (λ e. eqb-false c.card-item.result c.args.first (not-true _ (sym c.ne.ensures ∙ w.if-ne.true)) e) w.entering_on.ensures.heap);
      }
      | then-ne+then-number-past+in_default w ↦ record {
        least = λ pairs. next_none c.args.heap.now c.loop-card.heap _ was pairs c.layout-layout.ensures.cells.shape c.args.region c.args.cards.now c.loop-card.card-index c.card-item.result at
            c.loop-card.past c.loop-card.least (c.loop-card.invariant.least pairs) c.if-ne.past c.if-ne.least w.in_default.ensures.least w.past-is w.least-is;
        read = λ first. rw w.heap-is (read_other c.args.heap.now c.loop-card.heap c.args.cards.now c.args.first first c.loop-card.card-index (c.loop-card.invariant.read first) c.card-item.result w.entering_on.new.heap at
            (λ e. eqb-false c.card-item.result c.args.first (not-true _ (sym c.ne.ensures ∙ w.if-ne.true)) e) w.entering_on.ensures.heap);
      }
      | else-ne w ↦ record {
        least = elim w.else-ne.branch [
          | else-ne-via-then-ne+else-number-past w' ↦ λ pairs. next_past c.args.heap.now c.loop-card.heap _ was pairs c.layout-layout.ensures.cells.shape c.args.region c.args.cards.now c.loop-card.card-index c.card-item.result at
              c.loop-card.past c.loop-card.least (c.loop-card.invariant.least pairs) c.if-ne.past c.if-ne.least (omega (arith, w'.number.ensures, w'.if-number-past.false)) w.past-is w.least-is
          | else-ne-via-else-ne w' ↦ λ pairs.
              let same : c.card-item.result ≡ c.args.first = elim (cases_eq c.card-item.result c.args.first) [
                | inl e ↦ e
                | inr ne ↦ absurd (true≢false (sym (ap not (ne_eqb c.card-item.result c.args.first ne)) ∙ sym c.ne.ensures ∙ w'.if-ne.false))
              ] in
              next_known c.args.heap.now c.loop-card.heap _ was pairs c.layout-layout.ensures.cells.shape c.args.region c.args.cards.now c.loop-card.card-index c.card-item.result at
              c.loop-card.past c.loop-card.least (c.loop-card.invariant.least pairs) c.if-ne.past c.if-ne.least
              (subst (λ (k : ℕ). IsLeastOn (table_from c.args.heap.now pairs) (k ∷ []) c.args.region None) (sym same) (c.requires.none pairs)) w.past-is w.least-is
        ];
        read = λ first. rw w.heap-is (read_skipped c.args.heap.now c.loop-card.heap c.args.cards.now c.args.first first c.loop-card.card-index (c.loop-card.invariant.read first));
      }
    ]

pub returns-clause-least : goal.returns-clause-least
returns-clause-least c = λ pairs. from_all (table_from c.args.heap.now pairs) c.layout-layout.ensures.cells.shape c.args.region c.args.cards.now c.loop-card.past c.loop-card.least c.layout-layout.ensures.cells.slots
    (subst (λ (cards : List ℕ). IsLeastFrom (table_from c.args.heap.now pairs) cards c.args.region c.loop-card.past c.loop-card.least)
    (take_all c.loop-card.card-index c.args.cards.now c.loop-card-test.false) (c.loop-card.invariant.least pairs))

pub returns-clause-heap : goal.returns-clause-heap
returns-clause-heap c = read_but_one c.args.heap.now c.loop-card.heap c.args.cards.now c.args.first c.requires.first c.loop-card.card-index (c.loop-card.invariant.read c.requires.first) c.loop-card-test.false c.loop-card.auto.card-index-end

-- what is asked of the heap, which has the layout of the start
pub entering_on-requires-clause-card : goal.entering_on-requires-clause-card
entering_on-requires-clause-card c =
    let here : c.card-item.result < card_count c.args.heap.now.layout = subst (λ (n : ℕ). n < card_count c.args.heap.now.layout) (sym c.card-item.is)
    (c.requires.cards c.loop-card.card-index c.card-item.result c.loop-card-test.true) in
    subst (λ (l : Shape). c.card-item.result < card_count l) (read_layout c.args.heap.now c.loop-card.heap _ (c.loop-card.invariant.read c.requires.first)) here
