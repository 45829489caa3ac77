-- Which words refer into another region: neither null nor data.
use Rattle.std.specs.Prelude.{◌≡◌, ◌/◌, ◌<◌, ◌≤◌, ◌^◌}
use Rattle.g1_race_words.specs.{ℕ, eqb, not, nat_lt, true, false, sym, ap, ◌∙◌, inl, inr, arith, ne_eqb, cases_lt, lt-ltb, le-ltb, RaceShape, IsReference, IsWord, region_at, crosses}
use Rattle.g1_race_words.proofs.Plain.{true_is, false_is}

pub null_crosses : (k : RaceShape) (p n : ℕ) → n ≡ 0 → crosses k p n ≡ false
null_crosses k p n e = ap (crosses k p) e

pub data_crosses : (k : RaceShape) (p n : ℕ) → 2 ^ 32 ≤ n → crosses k p n ≡ false
data_crosses k p n le = false_is (eqb n 0) false _ (ne_eqb n 0 (λ z. absurd (omega (arith, le, z))))
    ∙ false_is (nat_lt n (2 ^ 32)) (not (eqb (p / k.span) (region_at k n))) false (le-ltb n (2 ^ 32) le)

pub crosses_reference : (k : RaceShape) (p n : ℕ) → crosses k p n ≡ true → IsReference n
crosses_reference k p n cr = (
  λ z. absurd (let f : false ≡ true = sym (null_crosses k p n z) ∙ cr in cc (f)),
  elim (cases_lt n (2 ^ 32)) [
    | inl low ↦ low
    | inr high ↦ absurd (let f : false ≡ true = sym (data_crosses k p n high) ∙ cr in cc (f))
  ],
)

-- a reference crosses regions where it lies in another one
pub reference_crosses : (k : RaceShape) (p n : ℕ) → IsReference n → crosses k p n ≡ not (eqb (p / k.span) (region_at k n))
reference_crosses k p n is = false_is (eqb n 0) false _ (ne_eqb n 0 is.0) ∙ true_is (nat_lt n (2 ^ 32)) (not (eqb (p / k.span) (region_at k n))) false (lt-ltb n (2 ^ 32) is.1)

-- a word below 2^32 is null or one more than a slot
pub low_word : (k : RaceShape) (n : ℕ) → IsWord k n → n < 2 ^ 32 → n ≤ k.slots
low_word k n (inl le) low = le
low_word k n (inr high) low = absurd (omega (arith, high, low))

-- and so is one that refers into another region
pub word_low : (k : RaceShape) (p n : ℕ) → IsWord k n → crosses k p n ≡ true → n ≤ k.slots
word_low k p n word cr = low_word k n word (crosses_reference k p n cr).1
