-- The bits of the pairs among the words.
use Rattle.std.specs.Prelude.{◌≡◌, ◌≢◌, ◌⊎◌, ◌+◌, ◌-◌, ◌*◌, ◌/◌, ◌%◌, ◌^◌, ◌<◌, ◌≤◌}
use Rattle.g1_race_words.specs.{ℕ, List, length, set, get_or, bit_or, w64, true, sym, ap, ◌∙◌, subst, inl, inr, arith, div-lt_iff_lt-mul, bit_at, cases_eq, get_or-set_same, get_or-set_other, div-mul-add, mod-mul-add, mul-add-lt, bit_at_set_same, bit_at_set_other, RaceShape, IsWord, slot_card, region_at, crosses, IsWholeShape, IsPair, HasBit, bit_word, bit_index}
use Rattle.g1_race_words.proofs.Crossing.{crosses_reference, word_low}

pub card_below : (k : RaceShape) (p : ℕ) → IsWholeShape k → p < k.slots → slot_card k p < k.cards
card_below k p shaped lt = (div-lt_iff_lt-mul shaped.1).1 (subst (λ (n : ℕ). p < n) shaped.0 lt)

-- the pair of a reference that crosses regions
pub crossing_pair : (k : RaceShape) (p n : ℕ) → IsWholeShape k → p < k.slots → IsWord k n → crosses k p n ≡ true → IsPair k (slot_card k p, region_at k n)
crossing_pair k p n shaped lt word cr = (card_below k p shaped lt, (div-lt_iff_lt-mul shaped.2).1 (let some_n = (crosses_reference k p n cr).0 in let le = word_low k p n word cr in let x : ℕ = k.regions * k.span in let e : k.slots ≡ x = shaped.6 in let goal : n - 1 < x = omega arith in goal))

-- the bits of all pairs have room, and no two pairs have one bit

pub card_in_row : (k : RaceShape) (c : ℕ) → IsWholeShape k → c < k.cards → c / 64 < k.row
card_in_row k c shaped lt = let e : k.cards ≤ k.row * 64 = shaped.7 in omega arith

pub in_row : (k : RaceShape) (x : ℕ × ℕ) → IsWholeShape k → IsPair k x → x.0 / 64 < k.row
in_row k x shaped pair = card_in_row k x.0 shaped pair.0

pub word_below : (k : RaceShape) (x : ℕ × ℕ) → IsWholeShape k → IsPair k x → bit_word k x < k.slots + k.cards + k.bits
word_below k x shaped pair = let n : ℕ = x.0 / 64 in let r : ℕ = x.1 * k.row in let all : ℕ = k.row * k.regions in let same : ℕ = k.regions * k.row in
    let a : r + n < all = mul-add-lt x.1 k.row n k.regions pair.1 (in_row k x shaped pair) in let b : k.bits ≡ same = shaped.8 in let e : all ≡ same = omega arith in let goal : k.slots + k.cards + (r + n) < k.slots + k.cards + k.bits = omega arith in goal

pub bit_apart : (k : RaceShape) (x y : ℕ × ℕ) → IsWholeShape k → x.0 < k.cards → y.0 < k.cards → bit_word k x ≡ bit_word k y → bit_index k x ≡ bit_index k y → x ≡ y
bit_apart k x y shaped px py e f =
    let low : x.1 * k.row + x.0 / 64 ≡ y.1 * k.row + y.0 / 64 = (let n : ℕ = x.1 * k.row + x.0 / 64 in let m : ℕ = y.1 * k.row + y.0 / 64 in let g : k.slots + k.cards + n ≡ k.slots + k.cards + m = e in let goal : n ≡ m = omega arith in goal) in
    let regions : x.1 ≡ y.1 = sym (div-mul-add x.1 k.row (x.0 / 64) (card_in_row k x.0 shaped px)) ∙ (ap (λ (n : ℕ). n / k.row) low ∙ div-mul-add y.1 k.row (y.0 / 64) (card_in_row k y.0 shaped py)) in
    let high : x.0 / 64 ≡ y.0 / 64 = sym (mod-mul-add x.1 k.row (x.0 / 64) (card_in_row k x.0 shaped px)) ∙ (ap (λ (n : ℕ). n % k.row) low ∙ mod-mul-add y.1 k.row (y.0 / 64) (card_in_row k y.0 shaped py)) in
    let cards : x.0 ≡ y.0 = (let n : ℕ = x.0 in let m : ℕ = y.0 in let e' : n / 64 ≡ m / 64 = high in let f' : n % 64 ≡ m % 64 = f in let goal : n ≡ m = omega arith in goal) in
    λ i. (cards i, regions i)

-- words of slots and marks change no bit
abbrev pub SameBits : RaceShape → List ℕ → List ℕ → Type 0
SameBits k words new = (x : ℕ × ℕ) → get_or new (bit_word k x) 0 ≡ get_or words (bit_word k x) 0

pub same_bits : (k : RaceShape) (words : List ℕ) (i n : ℕ) → i < k.slots + k.cards → SameBits k words (set words i n)
same_bits k words i n lt x = get_or-set_other words i (bit_word k x) n 0 (λ e. let m : ℕ = x.1 * k.row + x.0 / 64 in let f : k.slots + k.cards + m ≡ i = e in omega arith)

pub bit_as : (k : RaceShape) (words new : List ℕ) (x : ℕ × ℕ) → SameBits k words new → HasBit k words x → HasBit k new x
bit_as k words new x same h = ap (λ (n : ℕ). bit_at n (bit_index k x)) (same x) ∙ h

-- one pair's bit is set

module _ (k : RaceShape) (words : List ℕ) (x : ℕ × ℕ) where
  abbrev pub with_bit : ℕ
  with_bit = bit_or (get_or words (bit_word k x) 0) (1 * 2 ^ bit_index k x % 2 ^ 64)

  abbrev pub with_pair : List ℕ
  with_pair = set words (bit_word k x) with_bit

  module _ (short : bit_word k x < length words) where
    there : (y : ℕ × ℕ) → bit_word k y ≡ bit_word k x → get_or with_pair (bit_word k y) 0 ≡ with_bit
    there y e = ap (λ (i : ℕ). get_or with_pair i 0) e ∙ get_or-set_same words (bit_word k x) with_bit 0 short

    low : bit_index k x < 64
    low = let n : ℕ = x.0 in let goal : n % 64 < 64 = omega arith in goal

    -- another bit is as it was
    other_word : (y : ℕ × ℕ) → bit_word k y ≢ bit_word k x → bit_at (get_or with_pair (bit_word k y) 0) (bit_index k y) ≡ bit_at (get_or words (bit_word k y) 0) (bit_index k y)
    other_word y apart = ap (λ (n : ℕ). bit_at n (bit_index k y)) (get_or-set_other words (bit_word k x) (bit_word k y) with_bit 0 apart)

    other_place : (y : ℕ × ℕ) → bit_word k y ≡ bit_word k x → bit_index k y ≢ bit_index k x → bit_at (get_or with_pair (bit_word k y) 0) (bit_index k y) ≡ bit_at (get_or words (bit_word k y) 0) (bit_index k y)
    other_place y e apart = ap (λ (n : ℕ). bit_at n (bit_index k y)) (there y e) ∙ (bit_at_set_other w64 (get_or words (bit_word k x) 0) (bit_index k x) low (bit_index k y) apart ∙ ap (λ (i : ℕ). bit_at (get_or words i 0) (bit_index k y)) (sym e))

    same_place : (y : ℕ × ℕ) → bit_word k y ≡ bit_word k x → bit_index k y ≡ bit_index k x → HasBit k with_pair y
    same_place y e f = ap (λ (n : ℕ). bit_at n (bit_index k y)) (there y e) ∙ (ap (bit_at with_bit) f ∙ bit_at_set_same w64 (get_or words (bit_word k x) 0) (bit_index k x) low)

    pub bit_here : HasBit k with_pair x
    bit_here = same_place x (λ i. bit_word k x) (λ i. bit_index k x)

    -- a bit is the pair's, or as it was
    is_or_was : (y : ℕ × ℕ) → ((bit_word k y ≡ bit_word k x) × (bit_index k y ≡ bit_index k x)) ⊎ (bit_at (get_or with_pair (bit_word k y) 0) (bit_index k y) ≡ bit_at (get_or words (bit_word k y) 0) (bit_index k y))
    is_or_was y = elim (cases_eq (bit_word k y) (bit_word k x)) [
      | inl e ↦ elim (cases_eq (bit_index k y) (bit_index k x)) [ inl f ↦ inl (e, f) | inr ne ↦ inr (other_place y e ne) ]
      | inr ne ↦ inr (other_word y ne)
    ]

    pub bits_stay : (y : ℕ × ℕ) → HasBit k words y → HasBit k with_pair y
    bits_stay y h = elim (is_or_was y) [ inl s ↦ same_place y s.0 s.1 | inr e ↦ e ∙ h ]

    pub bits_back : (y : ℕ × ℕ) → IsWholeShape k → x.0 < k.cards → y.0 < k.cards → HasBit k with_pair y → HasBit k words y ⊎ (x ≡ y)
    bits_back y shaped px py h = elim (is_or_was y) [ inl s ↦ inr (bit_apart k x y shaped px py (sym s.0) (sym s.1)) | inr e ↦ inl (sym e ∙ h) ]
