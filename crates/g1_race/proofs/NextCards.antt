-- The next card of a row of bits, in a word that was read.
use Rattle.std.specs.Prelude.{◌≡◌, ◌≢◌, ◌+◌, ◌-◌, ◌*◌, ◌/◌, ◌%◌, ◌^◌, ◌<◌, ◌≤◌}
use Rattle.g1_race.specs.{ℕ, Bool, true, false, eqb, List, Some, None, get_or, w64, refl, sym, ap, ◌∙◌, inl, inr, ⊎_elim, arith, eq-eqb, ne_eqb, some, get_elem?, bit_at, trailing_zeros, div-div-eq-div-mul, div-le_self, mul-le-mul_left, cases_lt, true≢false, pow-add, bit_at_above, bit_at-zero, bit_at-trailing_zeros, RaceShape, IsBegun, IsWholeShape, bit_index, bit_word, mark_word, started, IsNext, is_marked, is_member, is_of_any, joined_word, reads_as}

-- a card whose mark was read
pub mark_is : (k : RaceShape) (words : List ℕ) (card n : ℕ) → get_elem? words (mark_word k card) ≡ some n → n ≡ 1 → is_marked k words card ≡ true
mark_is k words card n at e = eq-eqb _ 1 (reads_as words (mark_word k card) n 0 at ∙ e)

pub mark_is_not : (k : RaceShape) (words : List ℕ) (card n : ℕ) → get_elem? words (mark_word k card) ≡ some n → n ≢ 1 → is_marked k words card ≡ false
mark_is_not k words card n at ne = ne_eqb _ 1 (λ e. ne (sym (reads_as words (mark_word k card) n 0 at) ∙ e))

-- there are fewer than 2 ^ 32
pub cards_fit : (k : RaceShape) → IsWholeShape k → k.cards < 2 ^ 32
cards_fit k shaped = omega (arith, mul-le-mul_left k.cards (let one : 1 ≤ k.size = omega (arith, shaped.1) in one), shaped.0, shaped.3)

-- back to its word
pub marked_word : (k : RaceShape) (words : List ℕ) (card : ℕ) → IsBegun (started k words) → card < k.cards → is_marked k words card ≡ true → get_elem? words (mark_word k card) ≡ some 1
marked_word k words card h lt e = ⊎_elim
    (λ (o : get_elem? words (mark_word k card) ≡ some 1). o)
    (λ (z : get_elem? words (mark_word k card) ≡ some 0). absurd (true≢false (sym e ∙ mark_is_not k words card 0 z (λ n. absurd (omega (arith, n))))))
    (h.marks card lt)

pub unmarked_word : (k : RaceShape) (words : List ℕ) (card : ℕ) → is_marked k words card ≡ false → get_elem? words (mark_word k card) ≡ some 1 → ⊥
unmarked_word k words card e at = true≢false (sym (mark_is k words card 1 at refl) ∙ e)

bit_after : (n p i : ℕ) → bit_at (n / 2 ^ p) i ≡ bit_at n (p + i)
bit_after n p i = ap (λ (m : ℕ). m % 2) (div-div-eq-div-mul n (2 ^ p) (2 ^ i) ∙ ap (λ (m : ℕ). n / m) (sym (pow-add 2 p i)))

-- what a walk knows that has found no card of the test before this one, and has a word whose bits say of which cards of its block the test is true
module _ (test : ℕ → Bool) (from card index found : ℕ) (f : index ≡ card % 64) (bits : (x : ℕ) → x / 64 ≡ card / 64 → test x ≡ eqb (bit_at found (x % 64)) 1)
    (none : (x : ℕ) → from ≤ x → x < card → test x ≡ false) where
  abbrev rest : ℕ
  rest = found / 2 ^ index

  test_bit : (i x n : ℕ) → x ≡ card + i → index + i < 64 → bit_at rest i ≡ n → test x ≡ eqb n 1
  test_bit i x n is lt b =
      bits x (omega (arith, f)) ∙ ap (λ (m : ℕ). eqb m 1) (ap (λ (j : ℕ). bit_at found j) (let low : x % 64 ≡ index + i = omega (arith, f) in low) ∙ (sym (bit_after found index i) ∙ b))

  pub none_of_bits : rest ≡ 0 → (x : ℕ) → from ≤ x → x < (card / 64 + 1) * 64 → test x ≡ false
  none_of_bits zero x low lt = let p : index ≡ card % 64 = f in elim (cases_lt x card) [
    | inl before ↦ none x low before
    | inr le ↦ test_bit (x - card) x 0 (omega arith) (omega arith) (ap (λ (n : ℕ). bit_at n (x - card)) zero ∙ bit_at-zero (x - card))
  ]

  module _ (some_left : rest ≢ 0) (fits : found < 2 ^ 64) where
    abbrev tz : ℕ
    tz = trailing_zeros w64 rest

    zeros : (tz < 64) × (bit_at rest tz ≡ 1) × ((i : ℕ) → i < tz → bit_at rest i ≡ 0)
    zeros = bit_at-trailing_zeros w64 rest (let r : ℕ = rest in let ne : r ≢ 0 = some_left in let goal : 0 < r = omega arith in goal) (omega (arith, div-le_self found (2 ^ index)))

    inside : index + tz < 64
    inside = elim (cases_lt (index + tz) 64) [
      | inl lt ↦ lt
      | inr high ↦ absurd (let z : 0 ≡ 1 = sym (bit_at_above found 64 (index + tz) fits high) ∙ (sym (bit_after found index tz) ∙ zeros.1) in omega arith)
    ]

    none_until : (x : ℕ) → from ≤ x → x < card + tz → test x ≡ false
    none_until x low lt = elim (cases_lt x card) [
      | inl before ↦ none x low before
      | inr le ↦ test_bit (x - card) x 0 (omega (arith, le)) (omega (arith, inside, le, lt)) (zeros.2 (x - card) (omega (arith, le, lt)))
    ]

    pub bit_found : (limit : ℕ) → from ≤ card → card + tz < limit → IsNext test limit from (Some (card + tz))
    bit_found limit past lt = ((let t : ℕ = tz in let goal : from ≤ card + t = omega (arith, past) in goal), lt, test_bit tz (card + tz) 1 refl inside zeros.1, none_until)

    pub bit_past : (limit : ℕ) → limit ≤ card + tz → IsNext test limit from None
    bit_past limit le x low lt = none_until x low (let t : ℕ = tz in let le' : limit ≤ card + t = le in let goal : x < card + t = omega (arith, lt) in goal)

-- the same of a walk along a row, which reads its word
module _ (k : RaceShape) {words read : List ℕ} (same : read ≡ words) (from card region at index found : ℕ) (e : at ≡ bit_word k (card, region)) (f : index ≡ bit_index k (card, region)) (there : get_elem? read at ≡ some found)
    (none : (x : ℕ) → from ≤ x → x < card → is_member k words region x ≡ false) where
  member_bits : (x : ℕ) → x / 64 ≡ card / 64 → is_member k words region x ≡ eqb (bit_at found (x % 64)) 1
  member_bits x block =
      let word : bit_word k (x, region) ≡ at = ap (λ (m : ℕ). k.slots + k.cards + (region * k.row + m)) block ∙ sym e in
      ap (λ (n : ℕ). eqb (bit_at n (x % 64)) 1) (ap (λ (j : ℕ). get_or words j 0) word ∙ (ap (λ (l : List ℕ). get_or l at 0) (sym same) ∙ reads_as read at found 0 there))

  pub none_of_word : found / 2 ^ index ≡ 0 → (x : ℕ) → from ≤ x → x < (card / 64 + 1) * 64 → is_member k words region x ≡ false
  none_of_word = none_of_bits (is_member k words region) from card index found f member_bits none

  module _ (some_left : found / 2 ^ index ≢ 0) (fits : found < 2 ^ 64) (limit : ℕ) where
    abbrev next : ℕ
    next = card + trailing_zeros w64 (found / 2 ^ index)

    pub next_found : from ≤ card → next < limit → IsNext (is_member k words region) limit from (Some next)
    next_found = bit_found (is_member k words region) from card index found f member_bits none some_left fits limit

    pub next_past : limit ≤ next → IsNext (is_member k words region) limit from None
    next_past = bit_past (is_member k words region) from card index found f member_bits none some_left fits limit

-- and of one along several rows, whose words are joined
module _ (k : RaceShape) {words read : List ℕ} (same : read ≡ words) (regions : List ℕ) (from card found : ℕ) (there : found ≡ joined_word k read (card / 64) regions)
    (none : (x : ℕ) → from ≤ x → x < card → is_of_any k words regions x ≡ false) where
  any_bits : (x : ℕ) → x / 64 ≡ card / 64 → is_of_any k words regions x ≡ eqb (bit_at found (x % 64)) 1
  any_bits x block = ap (λ (n : ℕ). eqb (bit_at n (x % 64)) 1) (ap (λ (b : ℕ). joined_word k words b regions) block ∙ (ap (λ (l : List ℕ). joined_word k l (card / 64) regions) (sym same) ∙ sym there))

  pub none_of_block : found / 2 ^ (card % 64) ≡ 0 → (x : ℕ) → from ≤ x → x < (card / 64 + 1) * 64 → is_of_any k words regions x ≡ false
  none_of_block = none_of_bits (is_of_any k words regions) from card (card % 64) found refl any_bits none

  module _ (some_left : found / 2 ^ (card % 64) ≢ 0) (fits : found < 2 ^ 64) (limit : ℕ) where
    abbrev any_next : ℕ
    any_next = card + trailing_zeros w64 (found / 2 ^ (card % 64))

    pub any_found : from ≤ card → any_next < limit → IsNext (is_of_any k words regions) limit from (Some any_next)
    any_found = bit_found (is_of_any k words regions) from card (card % 64) found refl any_bits none some_left fits limit

    pub any_past : limit ≤ any_next → IsNext (is_of_any k words regions) limit from None
    any_past = bit_past (is_of_any k words regions) from card (card % 64) found refl any_bits none some_left fits limit
