-- How many cards there can be.
use Rattle.std.specs.Prelude.{◌≡◌, ◌<◌, ◌≤◌, ◌+◌, ◌*◌, ◌^◌, ◌∷◌}
use Rattle.g1_sets.specs.{inl, inr, ℕ, suc, false, List, [], length, arith, sym, ap, ◌∙◌, subst, All, Contains, nat_eq, sum_by, IsDistinct, list_any, All-contains, cases_Bool, mul-le, get_or_default, length_push, sum_by-le, sum_by-cons, Shape, IsShape, IsWithinProfile, card_count, card_count_limit, list_at, with_card, AreLists}
use Rattle.std.proofs.Math.Nat.{mul-le-mul}
use Rattle.std.proofs.lemmas.Map.Steps.{length-le_from_distinct_below}
use Rattle.g1_sets.proofs.CardLemmas.{in_list, with_card-new, IsDistinct-with_card, All-with_card}

-- a list is no longer than there are cards
pub few_listed : (l : Shape) (lists : List (List ℕ)) → AreLists l lists → (region : ℕ) → length (list_at lists region) ≤ card_count l
few_listed l lists are region = length-le_from_distinct_below (list_at lists region) (card_count l) (are.distinct region)
    (λ q h. All-contains (λ c. c < card_count l) (list_at lists region) q (are.below region) (in_list (list_at lists region) q h))

-- all lists together are no longer than there are pairs of a card and a region
listed_le : (l : Shape) (lists : List (List ℕ)) → AreLists l lists → sum_by length lists ≤ length lists * card_count l
listed_le l lists are =
    let each : All (λ (cards : List ℕ). length cards ≤ card_count l) lists = λ k d lt. subst (λ (cards : List ℕ). length cards ≤ card_count l) (get_or_default lists k [] d lt) (few_listed l lists are k) in
    sum_by-le length (card_count l) lists each

pub few_pairs : (l : Shape) (lists : List (List ℕ)) → IsShape l → AreLists l lists → sum_by length lists ≤ 2 ^ 32
few_pairs l lists shape are =
    let most : length lists * card_count l ≤ 256 * 16777216 = mul-le-mul (subst (λ n. n ≤ 256) (sym are.count) shape.regions_high) (card_count_limit l shape) in
    omega (arith, listed_le l lists are, most)

-- fewer than 2^32 within the limits of the profile
pub few_in_profile : (l : Shape) (lists : List (List ℕ)) → IsWithinProfile l → AreLists l lists → sum_by length lists < 2 ^ 32
few_in_profile l lists within are =
    let cards : card_count l ≤ 256 * 256 = mul-le-mul within.shape.regions_high within.cards in
    let most : length lists * card_count l ≤ 256 * (256 * 256) = mul-le-mul (subst (λ n. n ≤ 256) (sym are.count) within.shape.regions_high) cards in
    omega (arith, listed_le l lists are, most)

-- a list without a card is shorter than there are cards
lacks_one : (cards : List ℕ) (n card : ℕ) → IsDistinct nat_eq cards → All (λ c. c < n) cards → card < n → (Contains cards card → ⊥) → length cards < n
lacks_one cards n card distinct below within never =
    let new : list_any (nat_eq card) cards ≡ false = elim (cases_Bool (list_any (nat_eq card) cards)) [
      | inl there ↦ absurd (never (in_list cards card there))
      | inr new ↦ new
    ] in
    let more : List ℕ = with_card cards card in
    let long : length more ≡ length cards + 1 = ap length (with_card-new cards card new) ∙ length_push cards card in
    let le : length more ≤ n = length-le_from_distinct_below more n (IsDistinct-with_card cards card distinct)
    (λ q h. All-contains (λ c. c < n) more q (All-with_card cards card (λ c. c < n) below within) (in_list more q h)) in
    omega (arith, long, le)

-- and fewer than 2^32 where each card lies outside its region: card 0 isn't in the list of region 0
pub few_outside : (l : Shape) (lists : List (List ℕ)) → IsShape l → AreLists l lists → (Contains (list_at lists 0) 0 → ⊥) → sum_by length lists < 2 ^ 32
few_outside l [] shape are never = omega arith
few_outside l (cards ∷ lists) shape are never =
    let some : 0 < card_count l = mul-le 1 1 l.regions l.cards shape.regions_low shape.cards_low in
    let first : length cards < card_count l = lacks_one cards (card_count l) 0 (are.distinct 0) (are.below 0) some never in
    let each : All (λ (cs : List ℕ). length cs ≤ card_count l) lists = λ k d lt. subst (λ (cs : List ℕ). length cs ≤ card_count l) (get_or_default lists k [] d lt) (few_listed l (cards ∷ lists) are (suc k)) in
    let rest : sum_by length lists ≤ length lists * card_count l = sum_by-le length (card_count l) lists each in
    let few : length lists ≤ 255 = omega (arith, are.count, shape.regions_high) in
    let most : length lists * card_count l ≤ 255 * 16777216 = mul-le-mul few (card_count_limit l shape) in
    omega (arith, sum_by-cons length cards lists, first, rest, most, card_count_limit l shape)
