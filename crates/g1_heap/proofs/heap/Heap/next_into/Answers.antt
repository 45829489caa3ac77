use Rattle.std.specs.Prelude.{◌<◌}
use Rattle.g1_heap.specs.{ℕ, List, get_or, map, sym, subst, ◌∙◌, arith, slot_count, ref_of, HasNoneInto, IsNextInto}
use Rattle.g1_heap.specs.Cells.{Cells}
use Rattle.g1_heap.proofs.{row_of, row_length}
use Rattle.g1_heap.proofs.EnteringLemmas.{row_words, none_into, next_into, between_below, place_is, has_place}
use Rattle.g1_heap.proofs.heap.Heap.next_into.Goals as goal

pub returns-then-at-row-clause-next : goal.returns-then-at-row-clause-next
returns-then-at-row-clause-next c =
    subst (λ (d : Cells). HasNoneInto d.layout d.refs c.args.card c.args.region c.args.from d.layout.slots) c.self.view_is
    (subst (λ (ws : List ℕ). HasNoneInto c.self.inside.layout (map (ref_of c.self.inside.layout) ws) c.args.card c.args.region c.args.from c.self.inside.layout.slots) c.deref.ensures.value
    (none_into c.self.inside.layout c.deref.result.now c.args.card c.args.region c.number-first.result c.counts-cards.result.2 _ _
    (row_words c.self.inside.layout c.deref.result.now c.args.card c.args.region c.number-first.result c.counts-cards.result.2 c.number.result c.counts-cards.result.1 c.counts-cards.ensures.shape
    (c.number-first.ensures ∙ c.first_slot.ensures.first) c.counts-cards.ensures.slots (omega arith) (subst (λ (d : Cells). c.args.region < d.layout.regions) (sym c.self.view_is) c.requires.region) c.number.ensures c.counts-cards.ensures.cards)
    c.args.from c.self.inside.layout.slots (omega (arith, c.counts-cards.ensures.slots))
    (λ k above lt. c.first_between-at.ensures.before k above (omega (arith, lt, c.if-at-row.true, c.counts-cards.ensures.slots, row_length c.deref.result.now c.number-first.result c.counts-cards.result.2 (omega arith))))))

pub unwrap-place-requires : goal.unwrap-place-requires
unwrap-place-requires c = has_place (get_or (row_of c.deref.result.now c.number-first.result c.counts-cards.result.2) c.first_between-at.result 0) (slot_count c.self.inside.layout) c.slot.result c.slot.ensures
    (between_below c.self.inside.layout c.deref.result.now c.args.card c.args.region c.number-first.result c.counts-cards.result.2 _ _
    (row_words c.self.inside.layout c.deref.result.now c.args.card c.args.region c.number-first.result c.counts-cards.result.2 c.number.result c.counts-cards.result.1 c.counts-cards.ensures.shape
    (c.number-first.ensures ∙ c.first_slot.ensures.first) c.counts-cards.ensures.slots (omega arith) (subst (λ (d : Cells). c.args.region < d.layout.regions) (sym c.self.view_is) c.requires.region) c.number.ensures c.counts-cards.ensures.cards)
    (get_or (row_of c.deref.result.now c.number-first.result c.counts-cards.result.2) c.first_between-at.result 0) (c.first_between-at.ensures.found (omega (arith, c.first_between-at.ensures.range.1, c.if-at-row.false))).1)

pub returns-clause-next : goal.returns-clause-next
returns-clause-next c =
    let found = c.first_between-at.ensures.found (omega (arith, c.first_between-at.ensures.range.1, c.if-at-row.false)) in
    subst (λ (d : Cells). IsNextInto d.layout d.refs c.args.card c.args.region c.args.from c.first_between-at.result c.unwrap-place.result) c.self.view_is
    (subst (λ (ws : List ℕ). IsNextInto c.self.inside.layout (map (ref_of c.self.inside.layout) ws) c.args.card c.args.region c.args.from c.first_between-at.result c.unwrap-place.result) c.deref.ensures.value
    (next_into c.self.inside.layout c.deref.result.now c.args.card c.args.region c.number-first.result c.counts-cards.result.2 _ _
    (row_words c.self.inside.layout c.deref.result.now c.args.card c.args.region c.number-first.result c.counts-cards.result.2 c.number.result c.counts-cards.result.1 c.counts-cards.ensures.shape
    (c.number-first.ensures ∙ c.first_slot.ensures.first) c.counts-cards.ensures.slots (omega arith) (subst (λ (d : Cells). c.args.region < d.layout.regions) (sym c.self.view_is) c.requires.region) c.number.ensures c.counts-cards.ensures.cards)
    c.args.from c.first_between-at.result c.unwrap-place.result c.first_between-at.ensures.range.0 (omega (arith, c.first_between-at.ensures.range.1, c.if-at-row.false, row_length c.deref.result.now c.number-first.result c.counts-cards.result.2 (omega arith)))
    found.0 found.1 (place_is (get_or (row_of c.deref.result.now c.number-first.result c.counts-cards.result.2) c.first_between-at.result 0) (slot_count c.self.inside.layout) c.unwrap-place.result c.slot.result c.unwrap-place.ensures c.slot.ensures) c.first_between-at.ensures.before))
