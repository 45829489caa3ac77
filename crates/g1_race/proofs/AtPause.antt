-- What a race can begin with after a step at a pause, and the seat of a pause.
use Rattle.std.specs.Prelude.{◌≡◌, ◌≢◌, ◌⊎◌, ◌+◌, ◌<◌}
use Rattle.g1_race.specs.{get_or, read_at, ℕ, List, set, length, length-set, true, refl, sym, ◌∙◌, subst, inl, inr, ⊎_elim, arith, some, cases_eq, get_elem?, at_set, set_else, set_here, never_both, RaceShape, IsWord, IsBegun, IsFlagged, IsMarked, IsOfCrossing, IsPair, HasBit, flag, mark_word, slot_card, region_at, crosses, started, same_bits, bit_as, card_below, mark_apart, same_slots_at_mark}

-- a slot has a word
pub begun_read : (k : RaceShape) (words : List ℕ) (p : ℕ) → IsBegun (started k words) → p < k.slots → get_elem? words p ≡ some (get_or words p 0)
begun_read k words p h lt = read_at words p (omega (arith, h.sized, lt))

-- one item more has its value
pub filled_next : (count : ℕ) (place value : ℕ → ℕ) (mid new : List ℕ) (n : ℕ) → ((c : ℕ) → c < n → c < count → get_elem? mid (place c) ≡ some (value c)) → get_elem? new (place n) ≡ some (value n)
    → ((c : ℕ) → c ≢ n → c < count → get_elem? new (place c) ≡ get_elem? mid (place c)) → (c : ℕ) → c < n + 1 → c < count → get_elem? new (place c) ≡ some (value c)
filled_next count place value mid new n before here same c up below = elim (cases_eq c n) [
  | inl e ↦ subst (λ (d : ℕ). get_elem? new (place d) ≡ some (value d)) (sym e) here
  | inr ne ↦ same c ne below ∙ before c (omega (arith, up, ne)) below
]

-- a card's mark stays, is cleaned where the bits of the card's pairs are set, or is set where the card's flag is
abbrev MarkStep : RaceShape → List ℕ → List ℕ → ℕ → Type 0
MarkStep k old new c = (get_elem? new (mark_word k c) ≡ get_elem? old (mark_word k c))
    ⊎ ((get_elem? new (mark_word k c) ≡ some 0) × ((p n : ℕ) → slot_card k p ≡ c → p < k.slots → get_elem? old p ≡ some n → crosses k p n ≡ true → HasBit k new (slot_card k p, region_at k n)))
    ⊎ ((get_elem? new (mark_word k c) ≡ some 1) × IsFlagged k new c)

-- a slot's word stays, or fits and is covered
abbrev SlotStep : RaceShape → List ℕ → List ℕ → ℕ → ℕ → Type 0
SlotStep k old new p n = (get_elem? old p ≡ some n) ⊎ (IsWord k n × (crosses k p n ≡ true → HasBit k new (slot_card k p, region_at k n) ⊎ IsMarked k new p))

-- what a race can begin with stays so after such a step
pub begun_step : (k : RaceShape) (old new : List ℕ) → IsBegun (started k old) → length new ≡ length old → ((p n : ℕ) → p < k.slots → get_elem? new p ≡ some n → SlotStep k old new p n) → ((c : ℕ) → c < k.cards → MarkStep k old new c)
    → ((p n : ℕ) → p < k.slots → get_elem? old p ≡ some n → crosses k p n ≡ true → HasBit k old (slot_card k p, region_at k n) → HasBit k new (slot_card k p, region_at k n))
    → ((x : ℕ × ℕ) → IsPair k x → HasBit k new x → HasBit k old x ⊎ IsOfCrossing k x) → ((c : ℕ) → c < k.cards → get_elem? old (mark_word k c) ≡ some 1 → IsFlagged k old c → IsFlagged k new c) → IsBegun (started k new)
begun_step k old new h len slots marks pairs proper flags = record {
  shaped = h.shaped;
  sized = len ∙ h.sized;
  bounded = λ p n lt at. ⊎_elim (λ (was : get_elem? old p ≡ some n). h.bounded p n lt was) (λ s. s.0) (slots p n lt at);
  marks = λ c lt. elim (marks c lt) [ inl e ↦ rw e (h.marks c lt) | inr (inl m) ↦ inr m.0 | inr (inr m) ↦ inl m.0 ];
  covered = λ p n lt at cr. elim (slots p n lt at) [
    | inl was ↦ elim (h.covered p n lt was cr) [
      | inl b ↦ inl (pairs p n lt was cr b)
      | inr m ↦ elim (marks (slot_card k p) (card_below k p h.shaped lt)) [
        | inl e ↦ inr (e ∙ m)
        | inr (inl g) ↦ inl (g.1 p n refl lt was cr)
        | inr (inr g) ↦ inr g.0
      ]
    ]
    | inr s ↦ s.1 cr
  ];
  proper = λ x pair b. ⊎_elim (λ (was : HasBit k old x). h.proper x pair was) (λ c. c) (proper x pair b);
  flagged = λ c lt m. elim (marks c lt) [
    | inl e ↦ flags c lt (sym e ∙ m) (h.flagged c lt (sym e ∙ m))
    | inr (inl g) ↦ absurd (never_both new (mark_word k c) g.0 m)
    | inr (inr g) ↦ g.1
  ];
}

-- the words of slots and marks stay
pub begun_front : (k : RaceShape) (old new : List ℕ) → IsBegun (started k old) → length new ≡ length old → ((i : ℕ) → i < k.slots + k.cards → get_elem? new i ≡ get_elem? old i)
    → ((p n : ℕ) → p < k.slots → get_elem? old p ≡ some n → crosses k p n ≡ true → HasBit k old (slot_card k p, region_at k n) → HasBit k new (slot_card k p, region_at k n))
    → ((x : ℕ × ℕ) → IsPair k x → HasBit k new x → HasBit k old x ⊎ IsOfCrossing k x) → ((c : ℕ) → c < k.cards → get_elem? old (mark_word k c) ≡ some 1 → IsFlagged k old c → IsFlagged k new c) → IsBegun (started k new)
begun_front k old new h len front = begun_step k old new h len (λ p n lt at. inl (sym (front p (omega (arith, lt))) ∙ at)) (λ c lt. inl (front (mark_word k c) (omega (arith, lt))))

-- a word of slots or marks is written
begun_set : (k : RaceShape) (words : List ℕ) (i v : ℕ) → i < k.slots + k.cards → IsBegun (started k words) → ((p n : ℕ) → p < k.slots → get_elem? (set words i v) p ≡ some n → SlotStep k words (set words i v) p n)
    → ((c : ℕ) → c < k.cards → MarkStep k words (set words i v) c) → IsBegun (started k (set words i v))
begun_set k words i v lt h slots marks =
    let bits = same_bits k words i v lt in
    begun_step k words (set words i v) h (length-set words i v) slots marks (λ p n low at cr. bit_as k words (set words i v) _ bits)
    (λ x pair b. inl (bit_as k (set words i v) words x (λ y. sym (bits y)) b)) (λ c low m. bit_as k words (set words i v) (flag k c) bits)

-- a card's mark is written
pub begun_mark : (k : RaceShape) (words : List ℕ) (c v : ℕ) → c < k.cards → (get_elem? (set words (mark_word k c) v) (mark_word k c) ≡ some v → MarkStep k words (set words (mark_word k c) v) c) → IsBegun (started k words) → IsBegun (started k (set words (mark_word k c) v))
begun_mark k words c v lt step h = begun_set k words (mark_word k c) v (omega (arith, lt)) h (λ p n low at. inl (same_slots_at_mark k words c v p n low at)) (λ d below. elim (cases_eq d c) [
  | inl e ↦ subst (MarkStep k words (set words (mark_word k c) v)) (sym e) (step (set_here words (mark_word k c) v (omega (arith, h.sized, lt))))
  | inr ne ↦ inl (set_else words (mark_word k c) (mark_word k d) v (λ e. ne (omega (arith, e))))
])

pub begun_marked : (k : RaceShape) (words : List ℕ) (c : ℕ) → c < k.cards → IsFlagged k words c → IsBegun (started k words) → IsBegun (started k (set words (mark_word k c) 1))
begun_marked k words c lt flagged = begun_mark k words c 1 lt (λ here. inr (inr (here, bit_as k words (set words (mark_word k c) 1) (flag k c) (same_bits k words (mark_word k c) 1 (omega (arith, lt))) flagged)))

-- a slot's word is written, whose card is dirty if it must be
pub begun_placed : (k : RaceShape) (words : List ℕ) (p n : ℕ) → p < k.slots → IsWord k n → (crosses k p n ≡ true → HasBit k words (slot_card k p, region_at k n) ⊎ IsMarked k words p) → IsBegun (started k words) → IsBegun (started k (set words p n))
begun_placed k words p n lt fits marked h = begun_set k words p n (omega (arith, lt)) h (λ q m low at. ⊎_elim
    (λ (t : (q ≡ p) × (n ≡ m)). inr (subst (λ (x : ℕ × ℕ). IsWord k x.1 × (crosses k x.0 x.1 ≡ true → HasBit k (set words p n) (slot_card k x.0, region_at k x.1) ⊎ IsMarked k (set words p n) x.0)) (λ i. (sym t.0 i, t.1 i)) (
      fits,
      λ cr. ⊎_elim
          (λ (b : HasBit k words (slot_card k p, region_at k n)). inl (bit_as k words (set words p n) _ (same_bits k words p n (omega (arith, lt))) b))
          (λ (x : IsMarked k words p). inr (same (slot_card k p) ∙ x))
          (marked cr),
    )))
    (λ (t : (q ≢ p) × (get_elem? words q ≡ some m)). inl t.1)
    (at_set words p q n m at)) (λ c low. inl (same c))
  where
    same : (c : ℕ) → get_elem? (set words p n) (mark_word k c) ≡ get_elem? words (mark_word k c)
    same c = set_else words p (mark_word k c) n (λ e. mark_apart k p c lt e)
