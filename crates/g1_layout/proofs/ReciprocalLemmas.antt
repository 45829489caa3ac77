-- Division as one multiplication.
use Rattle.std.proofs.Common.{◌≡◌, ℕ, ◌+◌, ◌-◌, ◌*◌, ◌/◌, ◌%◌, ◌<◌, ◌≤◌, ap, ◌∙◌, arith}
use Rattle.std.proofs.Math.Nat.{lt_of_mul-lt-mul_left, div-add-mod, mul-div-le, mul_assoc}
use Rattle.std.proofs.lemmas.Nat.{div-mul-add, div-add-mod', mul-le}
use Rattle.g1_layout.specs.Reciprocal.{IsReciprocal, IsDivided, multiplier_of}
use Rattle.g1_layout.specs.Shape.{Shape, IsShape, slot_count, card_count}
use Rattle.g1_layout.proofs.ShapeLemmas.{card_count_limit, slot_count_limit}

-- what the product has beyond the quotient, times the divisor
left_over : (n d q r m e s : ℕ) → q * d + r ≡ n → d * m ≡ s + e → d * (q * e + r * m) ≡ n * e + r * s
left_over n d q r m e s is over =
    omega (arith, ap (λ x. x * e) is, ap (λ x. r * x) over)

-- it stays below the scale
below_scale : (n d q r m e s : ℕ) → q * d + r ≡ n → d * m ≡ s + e → r < d → n * e < s → q * e + r * m < s
below_scale n d q r m e s is over less small =
    lt_of_mul-lt-mul_left d (omega (arith, left_over n d q r m e s is over, mul-le (r + 1) s d s (omega arith) (omega arith)))

-- the product is the quotient times the scale, and what it has beyond
product_split : (n d q r m e s : ℕ) → q * d + r ≡ n → d * m ≡ s + e → n * m ≡ q * s + (q * e + r * m)
product_split n d q r m e s is over =
    omega (arith, ap (λ x. x * m) is, ap (λ x. q * x) over)

-- a quotient by a scaled-up reciprocal is exact
exact : (n d m e s : ℕ) → 0 < d → d * m ≡ s + e → n * e < s → n * m / s ≡ n / d
exact n d m e s some over small =
    let is : n / d * d + n % d ≡ n = div-add-mod' n d in
    let less : n % d < d = omega arith in
    ap (λ x. x / s) (product_split n d (n / d) (n % d) m e s is over)
    ∙ div-mul-add (n / d) s (n / d * e + n % d * m) (below_scale n d (n / d) (n % d) m e s is over less small)

-- the multiplier of a count, times the count, is the scale and at most the count more
multiplier_over : (s d : ℕ) → 0 < d → d * multiplier_of s d ≡ s + (d - s % d)
multiplier_over s d some =
    let less : s % d < d = omega arith in
    omega (arith, div-add-mod s d)

-- the quotient by a kept reciprocal
pub quotient_is : (s n d m : ℕ) → n * d < s → IsReciprocal s d m → n * m / s ≡ n / d
quotient_is s n d m small h =
    let rest : ℕ = d - s % d in
    let few : rest ≤ d = omega arith in
    rw h.multiplier_is (exact n d (multiplier_of s d) rest s h.some (multiplier_over s d h.some) (omega (arith, mul-le n rest n d (omega arith) few)))

-- the product is at most the limit of the quotient times the scale, and the number more
product_le : (s n d q : ℕ) → n ≤ q * d → n * multiplier_of s d ≤ q * s + n
product_le s n d q le =
    let parts : n * (s / d) ≤ q * d * (s / d) = mul-le n (s / d) (q * d) (s / d) le (omega arith) in
    let whole : q * (d * (s / d)) ≤ q * s = mul-le q (d * (s / d)) q s (omega arith) (mul-div-le s d) in
    let same : q * d * (s / d) ≡ q * (d * (s / d)) = omega arith in
    omega (arith, parts, whole, same)

-- a slot by the slots a card, a slot by those a region, and a card by the cards a region
module _ (l : Shape) (shape : IsShape l) where
  pub card_is_divided : (slot : ℕ) → slot < slot_count l → IsDivided 274877906944 l.slots slot
  card_is_divided slot less =
      let below : slot ≤ 1073741823 = omega (arith, less, slot_count_limit l shape) in
      let product : slot * l.slots ≤ 1073741823 * 64 = mul-le slot l.slots 1073741823 64 below shape.slots_high in
      let within = product_le 274877906944 slot l.slots (card_count l) (omega (arith, less)) in
      record {
        exact = omega (arith, product);
        fits = omega (arith, within, card_count_limit l shape, below);
      }

  pub region_is_divided : (slot : ℕ) → slot < slot_count l → IsDivided 4503599627370496 (l.cards * l.slots) slot
  region_is_divided slot less =
      let below : slot ≤ 1073741823 = omega (arith, less, slot_count_limit l shape) in
      let size : l.cards * l.slots ≤ 4194304 = mul-le l.cards l.slots 65536 64 shape.cards_high shape.slots_high in
      let product : slot * (l.cards * l.slots) ≤ 1073741823 * 4194304 = mul-le slot (l.cards * l.slots) 1073741823 4194304 below size in
      let all : slot ≤ l.regions * (l.cards * l.slots) = omega (arith, less, mul_assoc l.regions l.cards l.slots) in
      let within = product_le 4503599627370496 slot (l.cards * l.slots) l.regions all in
      record {
        exact = omega (arith, product);
        fits = omega (arith, within, shape.regions_high, below);
      }

  pub card_region_is_divided : (card : ℕ) → card < card_count l → IsDivided 4503599627370496 l.cards card
  card_region_is_divided card less =
      let few : card_count l ≤ 16777216 = card_count_limit l shape in
      let product : card * l.cards ≤ 16777216 * 65536 = mul-le card l.cards 16777216 65536 (omega (arith, less, few)) shape.cards_high in
      let within = product_le 4503599627370496 card l.cards l.regions (omega (arith, less)) in
      record {
        exact = omega (arith, product);
        fits = omega (arith, within, shape.regions_high, less, few);
      }
