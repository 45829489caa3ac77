-- The walk over the slots of some cards that collects the changes of a redirect.
use Rattle.std.specs.Prelude.{◌≡◌, ◌≢◌, ◌<◌, ◌≤◌, ◌+◌, ◌-◌, ◌*◌, ◌∷◌, ◌++◌, ◌↔◌}
use Rattle.g1_core.specs.{IsDistinct-tail, ◌∙◌, inl, inr, ℕ, zero, suc, Bool, true, false, eqb, List, [], length, get_or, Option, Some, None, refl, sym, ap, subst, arith, take, Contains, nat_eq, not, slice_get, IsDistinct, cons_option, range_with_len, cases_eq, eqb-false, ne_eqb, true≢false, not-true, append-nil, append_assoc, length-append, take_more, get_or-range_with_len, length-range_with_len, flat_map-append, filter_map-append, Contains-append_cases, Contains-append_left, Contains-append_right, Shape, IsShape, card_count, card_of, region_of_card, slot_at, Change, change_at, changes_of, slots_of, slots_on, AreGaining, get_or_from_slice_get, slice_get_within, Cells, Pairs, AreTied, list_at, AreRead, IsInRow, row_of_card, card_of-in_row, IsDistinct-from_AllPairs, Decides-eqb}
use Rattle.std.proofs.lemmas.List.Concat.{flat_map-cons}
use Rattle.g1_core.proofs.SetLemmas.{front_apart}
use Rattle.g1_core.proofs.MarkLemmas.{one_of, itself}
use Rattle.g1_core.proofs.RefinedLemmas.{distinct_both}

pub take_next : (cards : List ℕ) (index card : ℕ) → slice_get cards index ≡ Some card → take (index + 1) cards ≡ take index cards ++ card ∷ []
take_next cards index card at = take_more cards index card (slice_get_within cards index card at) ∙ ap (λ (c : ℕ). take index cards ++ c ∷ []) (get_or_from_slice_get cards index card card at)

-- the slots of some cards
pub range_split : (a m n : ℕ) → range_with_len a (m + n) ≡ range_with_len a m ++ range_with_len (a + m) n
range_split a zero n = let here : a ≡ a + 0 = omega arith in let none : 0 + n ≡ n = omega arith in λ i. range_with_len (here i) (none i)
range_split a (suc m) n =
    let sum : suc m + n ≡ suc (m + n) = omega arith in
    let next : a + 1 + m ≡ a + suc m = omega arith in
    ap (λ (k : ℕ). range_with_len a k) sum ∙ ap (λ (ks : List ℕ). a ∷ ks) (range_split (a + 1) m n ∙ ap (λ (k : ℕ). range_with_len (a + 1) m ++ range_with_len k n) next)

pub from_range : (a n s : ℕ) → Contains (range_with_len a n) s → (a ≤ s) × (s < a + n)
from_range a n s (k, lt, e) = omega (arith, length-range_with_len a n, get_or-range_with_len a n k s (omega (arith, length-range_with_len a n)))

pub to_range : (a n s : ℕ) → a ≤ s → s < a + n → Contains (range_with_len a n) s
to_range a n s low high = (s - a, omega (arith, length-range_with_len a n), omega (arith, get_or-range_with_len a n (s - a) s (omega arith)))

module _ (l : Shape) (shape : IsShape l) where
  pub on_card : (card slot : ℕ) → Contains (slots_of l card) slot → card_of l slot ≡ card
  on_card card slot c = let r = from_range (card * l.slots) l.slots slot c in card_of-in_row l card slot (record { from = r.0; below = r.1 })

  pub its_slot : (card slot : ℕ) → card_of l slot ≡ card → Contains (slots_of l card) slot
  its_slot card slot on = let r : IsInRow l card slot = row_of_card l card slot shape on in to_range (card * l.slots) l.slots slot r.from r.below

  pub slots_push : (cards : List ℕ) (card : ℕ) → slots_on l (cards ++ card ∷ []) ≡ slots_on l cards ++ slots_of l card
  slots_push cards card = flat_map-append (slots_of l) cards (card ∷ []) ∙ ap (λ (s : List ℕ). slots_on l cards ++ s) (flat_map-cons (slots_of l) card [] ∙ append-nil (slots_of l card))

  pub to_slots : (cards : List ℕ) (slot : ℕ) → Contains cards (card_of l slot) → Contains (slots_on l cards) slot
  to_slots [] slot c = absurd (omega (arith, c.1))
  to_slots (card ∷ cards) slot (zero, lt, e) = subst (λ (ss : List ℕ). Contains ss slot) (sym (flat_map-cons (slots_of l) card cards)) (Contains-append_left (slots_of l card) (slots_on l cards) slot (its_slot card slot (sym e)))
  to_slots (card ∷ cards) slot (suc k, lt, e) = subst (λ (ss : List ℕ). Contains ss slot) (sym (flat_map-cons (slots_of l) card cards)) (Contains-append_right (slots_of l card) (slots_on l cards) slot (to_slots cards slot (k, omega arith, e)))

  range_distinct : (a n : ℕ) → IsDistinct nat_eq (range_with_len a n)
  range_distinct a n = IsDistinct-from_AllPairs Decides-eqb (range_with_len a n) (λ i j d less below. λ e. absurd (omega (arith, e, less, below, length-range_with_len a n, get_or-range_with_len a n i d, get_or-range_with_len a n j d)))

  from_slots : (cards : List ℕ) (slot : ℕ) → Contains (slots_on l cards) slot → Contains cards (card_of l slot)
  from_slots [] slot c = absurd (omega (arith, c.1))
  from_slots (card ∷ cards) slot c = elim (Contains-append_cases (slots_of l card) (slots_on l cards) slot (rw (flat_map-cons (slots_of l) card cards) at c)) [
    | inl here ↦ (0, omega arith, sym (on_card card slot here))
    | inr rest ↦ let r = from_slots cards slot rest in (suc r.0, omega (arith, r.1), r.2)
  ]

  pub distinct_slots : (cards : List ℕ) → IsDistinct nat_eq cards → IsDistinct nat_eq (slots_on l cards)
  unfolding IsDistinct
  distinct_slots [] once = tt
  distinct_slots (card ∷ cards) once = rw (flat_map-cons (slots_of l) card cards) (distinct_both (slots_of l card) (slots_on l cards) (range_distinct (card * l.slots) l.slots) (distinct_slots cards (IsDistinct-tail nat_eq card cards once)) (λ slot here there. front_apart card cards once (subst (Contains cards) (on_card card slot here) (from_slots cards slot there))))

-- the next slot of a walk, and the next card
module _ (l : Shape) (refs : List (Option ℕ)) (from to : ℕ) where
  pub changes_both : (xs ys : List ℕ) → changes_of l refs from to (xs ++ ys) ≡ changes_of l refs from to xs ++ changes_of l refs from to ys
  changes_both xs ys = filter_map-append (λ slot. change_at l from to slot (get_or refs slot None)) xs ys

  pub changes_next : (card offset slot : ℕ) (o : Option Change) (before xs xs' : List Change) → slot ≡ slot_at l card offset → o ≡ change_at l from to slot (get_or refs slot None)
      → xs ≡ before ++ changes_of l refs from to (range_with_len (card * l.slots) offset) → xs' ≡ xs ++ cons_option o [] → xs' ≡ before ++ changes_of l refs from to (range_with_len (card * l.slots) (offset + 1))
  changes_next card offset slot o before xs xs' at is listed more =
      let range : range_with_len (card * l.slots) (offset + 1) ≡ range_with_len (card * l.slots) offset ++ slot ∷ [] = range_split (card * l.slots) offset 1 ∙ ap (λ (k : ℕ). range_with_len (card * l.slots) offset ++ k ∷ []) (sym at) in
      rw (more, listed, range, changes_both (range_with_len (card * l.slots) offset) (slot ∷ []), is, append_assoc) refl

  -- one card more, and those that gain of it
  pub gaining_more : (cards gaining more : List ℕ) (card : ℕ) → AreGaining l refs from to cards gaining → ((q : ℕ) → Contains more q ↔ ((q ≡ card) × (1 ≤ length (changes_of l refs from to (slots_of l q))) × (region_of_card l q ≢ to)))
      → AreGaining l refs from to (cards ++ card ∷ []) (gaining ++ more)
  gaining_more cards gaining more card h just q = (
    λ c. elim (Contains-append_cases gaining more q c) [
      | inl old ↦ let g = (h q).0 old in (Contains-append_left cards (card ∷ []) q g.0, g.1, g.2)
      | inr new ↦ let g = (just q).0 new in (Contains-append_right cards (card ∷ []) q (itself q card g.0), g.1, g.2)
    ],
    λ g. elim (Contains-append_cases cards (card ∷ []) q g.0) [
      | inl old ↦ Contains-append_left gaining more q ((h q).1 (old, g.1, g.2))
      | inr new ↦ Contains-append_right gaining more q ((just q).1 (one_of q card new, g.1, g.2))
    ],
  )

-- the changes of a card, from a heap that was read
pub references_next : (heap now : Cells) (most from to : ℕ) (cards : List ℕ) (index card : ℕ) (xs xs' : List Change) → IsShape heap.layout → AreRead heap now most → slice_get cards index ≡ Some card
    → xs ≡ changes_of heap.layout heap.refs from to (slots_on heap.layout (take index cards)) → xs' ≡ xs ++ changes_of now.layout now.refs from to (slots_of now.layout card)
    → xs' ≡ changes_of heap.layout heap.refs from to (slots_on heap.layout (take (index + 1) cards))
references_next heap now most from to cards index card xs xs' shape read at before more =
    more ∙ ap (λ (h : Cells). xs ++ changes_of h.layout h.refs from to (slots_of h.layout card)) read.cells
    ∙ rw (take_next cards index card at, slots_push heap.layout shape (take index cards) card, changes_both heap.layout heap.refs from to (slots_on heap.layout (take index cards)) (slots_of heap.layout card), ← before) refl

-- how many changes a card has
pub card_changes : (heap now : Cells) (most from to card before after : ℕ) (xs xs' : List Change) → AreRead heap now most → before ≡ length xs → after ≡ length xs' → xs' ≡ xs ++ changes_of now.layout now.refs from to (slots_of now.layout card)
    → after ≡ before + length (changes_of heap.layout heap.refs from to (slots_of heap.layout card))
card_changes heap now most from to card before after xs xs' read first second more =
    let same : length xs' ≡ length xs + length (changes_of heap.layout heap.refs from to (slots_of heap.layout card)) =
    ap (λ (ys : List Change). length ys) more ∙ length-append xs (changes_of now.layout now.refs from to (slots_of now.layout card)) ∙ ap (λ (h : Cells). length xs + length (changes_of h.layout h.refs from to (slots_of h.layout card))) read.cells in
    omega arith

module _ (heap : Cells) (from to : ℕ) (cards : List ℕ) (index card : ℕ) (at : slice_get cards index ≡ Some card) (gaining gaining' : List ℕ) (before : AreGaining heap.layout heap.refs from to (take index cards) gaining) where
  pub gains_next : 1 ≤ length (changes_of heap.layout heap.refs from to (slots_of heap.layout card)) → region_of_card heap.layout card ≢ to → gaining' ≡ gaining ++ card ∷ [] → AreGaining heap.layout heap.refs from to (take (index + 1) cards) gaining'
  gains_next some outside listed = rw (listed, take_next cards index card at) (gaining_more heap.layout heap.refs from to (take index cards) gaining (card ∷ []) card before (λ q. (λ c. (one_of q card c, rw (one_of q card c) some, rw (one_of q card c) outside), λ g. itself q card g.0)))

  pub gains_none : (1 ≤ length (changes_of heap.layout heap.refs from to (slots_of heap.layout card)) → region_of_card heap.layout card ≢ to → ⊥) → gaining' ≡ gaining → AreGaining heap.layout heap.refs from to (take (index + 1) cards) gaining'
  gains_none never listed = rw (listed, take_next cards index card at, ← append-nil gaining) (gaining_more heap.layout heap.refs from to (take index cards) gaining [] card before (λ q. (λ c. absurd (omega (arith, c.1)), λ g. absurd (never (rw g.0 at g.1) (rw g.0 at g.2)))))

-- where a card lies, by the test of the code, and that it is one of the heap
pub lies_outside : (l m : Shape) (card own to : ℕ) (test : Bool) → test ≡ not (eqb own to) → test ≡ true → own ≡ region_of_card l card → l ≡ m → region_of_card m card ≢ to
lies_outside l m card own to test is holds region same e = eqb-false own to (not-true _ (sym is ∙ holds)) (region ∙ ap (λ (l : Shape). region_of_card l card) same ∙ e)

pub lies_inside : (l m : Shape) (card own to : ℕ) (test : Bool) → test ≡ not (eqb own to) → test ≡ false → own ≡ region_of_card l card → l ≡ m → region_of_card m card ≡ to
lies_inside l m card own to test is fails region same = sym (region ∙ ap (λ (l : Shape). region_of_card l card) same) ∙ elim (cases_eq own to) [ inl e ↦ e | inr ne ↦ absurd (true≢false (sym (ap not (ne_eqb own to ne)) ∙ sym is ∙ fails)) ]

pub member_below : (sets : Pairs) (l : Shape) (region index card : ℕ) → AreTied sets → sets.layout ≡ l → slice_get (list_at sets.lists region) index ≡ Some card → card < card_count l
member_below sets l region index card tied same at =
    subst (λ (l : Shape). card < card_count l) same (subst (λ (c : ℕ). c < card_count sets.layout) (get_or_from_slice_get (list_at sets.lists region) index card card at) (tied.lists.below region index card (slice_get_within (list_at sets.lists region) index card at)))
