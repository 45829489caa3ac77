-- The slots of a card that enter a region, as a heap answers one after another.
use Rattle.std.specs.Prelude.{◌≡◌, ◌≢◌, ◌≤◌, ◌+◌, ◌-◌, ◌*◌, ◌^◌, ◌∷◌, ◌++◌}
use Rattle.g1_core.specs.{◌∙◌, inl, inr, ℕ, suc, true, cond, List, [], get_or, Option, Some, None, refl, sym, ap, subst, arith, not, range_with_len, eqb-true, eqb-false, eq-eqb, ne_eqb, and_parts, and_from, not-true, append-nil, Shape, IsShape, region_of, region_of_card, slot_at, same_offset, PairSet, region_of-row, Cells, with_reads, Change, table_from, enters, IsLeastOn, AreRead, change_at, changes_of, slots_of, Contains, cons_option, card_of-in_row, region_of_slot}
use Rattle.g1_heap.specs.Listing.{RefersInto}
use Rattle.g1_heap.specs.Entering.{HasNoneInto, IsNextInto}
use Rattle.g1_core.proofs.ChangeLemmas.{change_cases}
use Rattle.g1_core.proofs.LeastSlotLemmas.{NoneBefore, card_none, card_first, read_more}
use Rattle.g1_core.proofs.WalkLemmas.{changes_next, changes_both, range_split, from_range}

-- more reads
pub read_some : (old new : Cells) (more : ℕ) → old.reads ≤ 2 ^ 64 - 1 → new ≡ with_reads old more → AreRead old new more
read_some old new more bound is = record {
  cells = is ∙ ap (λ (reads : ℕ). let r : Cells = record { layout = old.layout; refs = old.refs; marks = old.marks; reads = reads } in r) (sym (ap (λ (h : Cells). h.reads) is));
  grown = omega (arith, ap (λ (h : Cells). h.reads) is);
  few = omega (arith, ap (λ (h : Cells). h.reads) is);
}

-- a walk over a card that goes on from an offset reads at most the card's slots
module _ (heap now new : Cells) (offset : ℕ) (before : AreRead heap now offset) (bound : now.reads ≤ 2 ^ 64 - 1) where
  pub walked : (found : ℕ) → offset ≤ found → new ≡ with_reads now (found + 1 - offset) → AreRead heap new (found + 1)
  walked found on is = read_more heap now new offset (found + 1 - offset) (found + 1) before (read_some now new (found + 1 - offset) bound is) (omega arith)

-- the least slot of a card that enters the region
module _ (heap : Cells) (card region : ℕ) (shape : IsShape heap.layout) (pairs : PairSet) where
  none_before : (end : ℕ) → HasNoneInto heap.layout heap.refs card region 0 end → NoneBefore (table_from heap pairs) card region end
  none_before end none k lt e = none k (omega arith) lt (record { place = e.place; refers = e.refers; into = e.into })

  pub least_none : HasNoneInto heap.layout heap.refs card region 0 heap.layout.slots → IsLeastOn (table_from heap pairs) (card ∷ []) region None
  least_none none = card_none (table_from heap pairs) shape card region heap.layout.slots (omega arith) (none_before heap.layout.slots none)

  pub least_next : (offset place slot : ℕ) → region_of_card heap.layout card ≢ region → IsNextInto heap.layout heap.refs card region 0 offset place → slot ≡ slot_at heap.layout card offset → IsLeastOn (table_from heap pairs) (card ∷ []) region (Some slot)
  least_next offset place slot outside next at =
      subst (λ (s : ℕ). IsLeastOn (table_from heap pairs) (card ∷ []) region (Some s)) (sym at)
      (card_first (table_from heap pairs) shape card region offset (none_before offset next.first) (record {
        place = place;
        refers = next.refers;
        into = next.into;
        outside = λ e. outside (sym (region_of-row heap.layout card offset next.within) ∙ e);
      }))

-- the changes of a card's slots
module _ (l : Shape) (refs : List (Option ℕ)) (from to card : ℕ) where
  -- a slot that does not enter the region has none
  none_away : (slot : ℕ) (o : Option ℕ) → (region_of l slot ≢ from → RefersInto l o from → ⊥) → change_at l from to slot o ≡ None
  none_away slot o never = elim (change_cases l from to slot o) [
    | inl left ↦ left.none
    | inr c ↦
        let parts = and_parts _ _ (sym (ap (λ (o : Option ℕ). enters l from (slot, o)) c.refers) ∙ c.enters) in
        absurd (never (λ e. eqb-false _ _ (not-true _ parts.0) e) (record { place = c.old; refers = c.refers; into = eqb-true _ _ parts.1 }))
  ]

  no_changes : (slots : List ℕ) → ((s : ℕ) → Contains slots s → change_at l from to s (get_or refs s None) ≡ None) → changes_of l refs from to slots ≡ []
  no_changes [] each = refl
  no_changes (s ∷ slots) each = λ i. cons_option (each s (0, omega arith, refl) i) (no_changes slots (λ q c. each q (suc c.0, omega (arith, c.1), c.2)) i)

  -- no change up to an offset
  pub changes_passed : (offset end : ℕ) (before xs : List Change) → offset ≤ end → HasNoneInto l refs card from offset end
      → xs ≡ before ++ changes_of l refs from to (range_with_len (card * l.slots) offset) → xs ≡ before ++ changes_of l refs from to (range_with_len (card * l.slots) end)
  changes_passed offset end before xs le none is =
      let more : List ℕ = range_with_len (card * l.slots + offset) (end - offset) in
      let length : offset + (end - offset) ≡ end = omega arith in
      let whole : range_with_len (card * l.slots) end ≡ range_with_len (card * l.slots) offset ++ more = ap (λ (k : ℕ). range_with_len (card * l.slots) k) (sym length) ∙ range_split (card * l.slots) offset (end - offset) in
      let nothing : changes_of l refs from to more ≡ [] = no_changes more (λ s c.
      let r = from_range (card * l.slots + offset) (end - offset) s c in
      let at : slot_at l card (s - card * l.slots) ≡ s = omega (arith, r.0) in
      none_away s (get_or refs s None) (λ outside m. none (s - card * l.slots) (omega (arith, r.0)) (omega (arith, r.1)) (rw at m))) in
      rw (is, whole, changes_both l refs from to (range_with_len (card * l.slots) offset) more, nothing, append-nil) refl

  -- a card in the region has none
  pub changes_own : (before : List Change) → region_of_card l card ≡ from → before ≡ before ++ changes_of l refs from to (slots_of l card)
  changes_own before own = rw (
    no_changes (slots_of l card) (λ s c.
        let r = from_range (card * l.slots) l.slots s c in
        none_away s (get_or refs s None) (λ outside m. outside (sym (region_of_slot l s) ∙ ap (region_of_card l) (card_of-in_row l card s (record { from = r.0; below = r.1 })) ∙ own))),
    append-nil,
  ) refl

  -- the change of the slot that is found
  pub change_found : (start offset place slot moved : ℕ) → region_of_card l card ≢ from → IsNextInto l refs card from start offset place → slot ≡ slot_at l card offset → moved ≡ same_offset l place to
      → (let c : Change = record { slot = slot; place = moved } in Some c ≡ change_at l from to slot (get_or refs slot None))
  change_found start offset place slot moved outside next at is =
      let enter : enters l from (slot, Some place) ≡ true = and_from _ _ (ap not (ne_eqb _ _ (λ e. outside (sym (region_of-row l card offset next.within) ∙ ap (region_of l) (sym at) ∙ e)))) (eq-eqb _ _ next.into) in
      let c : Change = record { slot = slot; place = same_offset l place to } in
      ap (λ (k : ℕ). let c : Change = record { slot = slot; place = k } in Some c) is
      ∙ sym (ap (λ b. cond {A = Option Change} b (Some c) None) enter)
      ∙ ap (λ (o : Option ℕ). change_at l from to slot o) (sym next.refers ∙ ap (λ (s : ℕ). get_or refs s None) (sym at))

-- the changes of a card, from a heap that was read
module _ (heap now : Cells) (most from to card offset : ℕ) (before xs : List Change) (read : AreRead heap now most) (sofar : xs ≡ before ++ changes_of heap.layout heap.refs from to (range_with_len (card * heap.layout.slots) offset)) where
  pub card_next : (found place slot moved : ℕ) (xs' : List Change) → region_of_card heap.layout card ≢ from → IsNextInto now.layout now.refs card from offset found place → slot ≡ slot_at heap.layout card found → moved ≡ same_offset heap.layout place to
      → (let c : Change = record { slot = slot; place = moved } in xs' ≡ xs ++ c ∷ []) → xs' ≡ before ++ changes_of heap.layout heap.refs from to (range_with_len (card * heap.layout.slots) (found + 1))
  card_next found place slot moved xs' outside next at is more =
      let n : IsNextInto heap.layout heap.refs card from offset found place = subst (λ (h : Cells). IsNextInto h.layout h.refs card from offset found place) read.cells next in
      let c : Change = record { slot = slot; place = moved } in
      changes_next heap.layout heap.refs from to card found slot (Some c) before xs xs' at (change_found heap.layout heap.refs from to card offset found place slot moved outside n at is)
      (changes_passed heap.layout heap.refs from to card offset found before xs n.not_before n.first sofar) more

  pub card_end : offset ≤ heap.layout.slots → HasNoneInto now.layout now.refs card from offset now.layout.slots → xs ≡ before ++ changes_of heap.layout heap.refs from to (slots_of heap.layout card)
  card_end within none =
      changes_passed heap.layout heap.refs from to card offset heap.layout.slots before xs within (subst (λ (h : Cells). HasNoneInto h.layout h.refs card from offset h.layout.slots) read.cells none) sofar
