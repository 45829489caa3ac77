-- The words of a card that lie between the numbers of a region's places are those that refer into the region.
use Rattle.std.specs.Prelude.{◌≡◌, ◌<◌, ◌≤◌, ◌+◌, ◌-◌, ◌*◌}
use Rattle.g1_heap.specs.{inl, inr, ℕ, List, length, get_or, map, Option, Some, None, refl, sym, ap, ◌∙◌, subst, arith, SomeIff, IsSome, cases_lt, Shape, IsShape, slot_count, region_of, slot_at, region_of-offset, region_has_slots, region_ends_within, ref_of, RefersInto, HasNoneInto, IsNextInto}
use Rattle.std.proofs.Math.Nat.{div-mul-le_self, lt-div-mul-add}
use Rattle.g1_heap.proofs.CellLemmas.{ref_of-place, ref_of-null}
use Rattle.g1_heap.proofs.RowLemmas.{row_of, row_at}

-- the words of a card's row, and the numbers of a region's places from the lowest on
pub record RowWords (l : Shape) (words : List ℕ) (card region first n low size : ℕ) : Type 0 where
  pub shape : IsShape l
  pub starts : first ≡ card * l.slots
  pub many : n ≡ l.slots
  pub room : first + n ≤ length words
  pub within : region < l.regions
  pub sized : size ≡ l.cards * l.slots
  pub lowest : low ≡ region * (l.cards * l.slots)

pub row_words : (l : Shape) (words : List ℕ) (card region first n number cards : ℕ) → IsShape l → first ≡ card * l.slots → n ≡ l.slots → first + n ≤ length words → region < l.regions → number ≡ region → cards ≡ l.cards
    → RowWords l words card region first n (number * (cards * n)) (cards * n)
row_words l words card region first n number cards shape starts many room within is each = record {
  shape = shape;
  starts = starts;
  many = many;
  room = room;
  within = within;
  sized = λ i. each i * many i;
  lowest = λ i. is i * (each i * many i);
}

-- what a layout answers for the number of a place
pub place_is : (number count place : ℕ) (o : Option ℕ) → o ≡ Some place → SomeIff o (number < count) number → place ≡ number
place_is number count place o is h = (subst (λ (o : Option ℕ). SomeIff o (number < count) number) is h).1

pub has_place : (number count : ℕ) (o : Option ℕ) → SomeIff o (number < count) number → number < count → IsSome o
has_place number count None h below = absurd (h below)
has_place number count (Some place) h below = refl

module _ (l : Shape) (words : List ℕ) (card region first n low size : ℕ) (w : RowWords l words card region first n low size) where
  its_place : (word place : ℕ) → ref_of l word ≡ Some place → word ≡ place
  its_place word place is = elim (cases_lt word (slot_count l)) [
    | inl below ↦ let same : Some word ≡ Some place = sym (ref_of-place l word below) ∙ is in cc
    | inr above ↦ let none : None ≡ Some place = sym (ref_of-null l word above) ∙ is in absurd (cc)
  ]

  into_between : (word : ℕ) → RefersInto l (ref_of l word) region → (low ≤ word) × (word < low + size)
  into_between word m =
      let row : (region * (l.cards * l.slots) ≤ m.place) × (m.place < region * (l.cards * l.slots) + l.cards * l.slots) =
      subst (λ (r : ℕ). (r * (l.cards * l.slots) ≤ m.place) × (m.place < r * (l.cards * l.slots) + l.cards * l.slots)) m.into (div-mul-le_self m.place (l.cards * l.slots), lt-div-mul-add {a = m.place} (region_has_slots l w.shape)) in
      let same : word ≡ m.place = its_place word m.place m.refers in
      (omega (arith, row.0, w.lowest), omega (arith, row.1, w.lowest, w.sized))

  pub between_below : (word : ℕ) → word < low + size → word < slot_count l
  between_below word lt = omega (arith, w.lowest, w.sized, region_ends_within l region w.within)

  between_into : (word : ℕ) → low ≤ word → word < low + size → (ref_of l word ≡ Some word) × (region_of l word ≡ region)
  between_into word from lt =
      let offset : word - low < l.cards * l.slots = omega (arith, w.sized) in
      let at : region * (l.cards * l.slots) + (word - low) ≡ word = omega (arith, w.lowest) in
      (ref_of-place l word (between_below word lt), sym (ap (region_of l) at) ∙ region_of-offset l region (word - low) offset)

  refers_at : (k : ℕ) → k < n → ref_of l (get_or (row_of words first n) k 0) ≡ get_or (map (ref_of l) words) (slot_at l card k) None
  refers_at k lt = row_at words first n w.room l k lt ∙ ap (λ (f : ℕ). get_or (map (ref_of l) words) (f + k) None) w.starts

  pub none_into : (from end : ℕ) → end ≤ n → ((k : ℕ) → from ≤ k → k < end → low ≤ get_or (row_of words first n) k 0 → get_or (row_of words first n) k 0 < low + size → ⊥)
      → HasNoneInto l (map (ref_of l) words) card region from end
  none_into from end few none k above lt m =
      let between = into_between (get_or (row_of words first n) k 0) (subst (λ o. RefersInto l o region) (sym (refers_at k (omega arith))) m) in
      none k above lt between.0 between.1

  pub next_into : (from at place : ℕ) → from ≤ at → at < n → low ≤ get_or (row_of words first n) at 0 → get_or (row_of words first n) at 0 < low + size → place ≡ get_or (row_of words first n) at 0
      → ((k : ℕ) → from ≤ k → k < at → low ≤ get_or (row_of words first n) k 0 → get_or (row_of words first n) k 0 < low + size → ⊥)
      → IsNextInto l (map (ref_of l) words) card region from at place
  next_into from at place above lt high below is none =
      let into = between_into (get_or (row_of words first n) at 0) high below in
      record {
        not_before = above;
        within = omega (arith, w.many);
        refers = sym (refers_at at lt) ∙ into.0 ∙ ap (λ (k : ℕ). Some k) (sym is);
        into = ap (region_of l) is ∙ into.1;
        first = none_into from at (omega arith) none;
      }
