-- Cards that are told apart by a test, and the pairs of a card with the regions of its block.
use Rattle.std.specs.Prelude.{◌≡◌, ◌⊎◌, ◌+◌, ◌<◌, ◌≤◌, ◌∷◌, ◌++◌, ◌/◌}
use Rattle.g1_race.specs.{inl, inr, ℕ, zero, suc, cond, Bool, true, false, List, [], length, Contains, Option, Some, None, refl, sym, ap, ◌∙◌, subst, arith, as_number, cases_Bool, cases_eq, cases_lt, append-nil, length_push, nat_eq, IsDistinct, false_from_ne_true, nat_cmp, true≢false, set_of, in_list, one_more, push_distinct, cards_where, IsNext, not-false, get_or, bit_at, flat_map, eqb-true, Contains-get_or, bit_at-zero, RaceShape, bit_index, bit_word, pairs_of_card, block_regions, has_block, one_pair, pair_clear}
use Rattle.std.proofs.lemmas.List.{length-append}
use Rattle.std.proofs.lemmas.Map.Keys.{apart_from_distinct, IsDistinct-tail}
use Rattle.std.specs.Cmp.{nat_eq_equiv}
use Rattle.std.proofs.lemmas.Grind.{flat_map-append}
use Rattle.std.specs.FinSet as set
use Rattle.g1_race.proofs.Gathering.{Gathered, gathered_none, gathered_in, gathered_out}

pub one_at_most : (b : Bool) → as_number b ≤ 1
one_at_most true = omega arith
one_at_most false = omega arith

pub some_below : (b : Bool) → 1 ≤ as_number b → b ≡ true
some_below true le = refl
some_below false le = absurd (omega arith)

-- numbers that are all different make a set of as many
distinct_len : (xs : List ℕ) → IsDistinct nat_eq xs → set.len (set_of xs) ≡ length xs
distinct_len [] distinct = set.len-empty nat_cmp
distinct_len (x ∷ xs) distinct = one_more (set_of xs) x (false_from_ne_true _ (λ h.
    let i = in_list xs x h in
    true≢false (sym (nat_eq_equiv.refl x) ∙ ap (nat_eq x) (sym i.2) ∙ apart_from_distinct nat_eq (x ∷ xs) 0 (suc i.0) x distinct (omega arith) (omega (arith, i.1)))))
    ∙ (let rest = distinct_len xs (IsDistinct-tail nat_eq x xs distinct) in omega (arith, rest))

module _ (test : ℕ → Bool) where
  pub put_in : (n : ℕ) → test n ≡ true → cards_where test (suc n) ≡ cards_where test n ++ n ∷ []
  put_in n e = ap (λ b. cards_where test n ++ cond b (n ∷ []) []) e

  pub left_out : (n : ℕ) → test n ≡ false → cards_where test (suc n) ≡ cards_where test n
  left_out n e = ap (λ b. cards_where test n ++ cond b (n ∷ []) []) e ∙ append-nil (cards_where test n)

  suc_is : (n : ℕ) → n + 1 ≡ suc n
  suc_is n = omega arith

  -- none of the cards between the two
  skip : (n m : ℕ) → n ≤ m → ((c : ℕ) → n ≤ c → c < m → test c ≡ false) → cards_where test m ≡ cards_where test n
  skip n zero le never = ap (cards_where test) (let e : 0 ≡ n = omega (arith, le) in e)
  skip n (suc m) le never = elim (cases_lt m n) [
    | inl lt ↦ ap (cards_where test) (let e : suc m ≡ n = omega (arith, lt, le) in e)
    | inr low ↦ left_out m (never m low (omega arith)) ∙ skip n m low (λ c a b. never c a (omega (arith, b)))
  ]

  -- the next one is the next of the list
  pub next_listed : (limit from card : ℕ) → IsNext test limit from (Some card) → cards_where test (card + 1) ≡ cards_where test from ++ card ∷ []
  next_listed limit from card h = ap (cards_where test) (suc_is card) ∙ (put_in card h.2 ∙ ap (λ (l : List ℕ). l ++ card ∷ []) (skip from card h.0 h.3))

  pub none_listed : (limit from : ℕ) → from ≤ limit → IsNext test limit from None → cards_where test limit ≡ cards_where test from
  none_listed limit from le h = skip from limit le h

  -- what the list has
  pub gathered : (n : ℕ) → Gathered (λ c. test c ≡ true) n (cards_where test n)
  gathered zero = gathered_none (λ c. test c ≡ true)
  gathered (suc n) = elim (cases_Bool (test n)) [
    | inl e ↦ subst (λ (l : List ℕ). Gathered (λ c. test c ≡ true) (suc n) l) (sym (put_in n e)) (subst (λ (m : ℕ). Gathered (λ c. test c ≡ true) m (cards_where test n ++ n ∷ [])) (suc_is n) (gathered_in (λ c. test c ≡ true) n (cards_where test n) (gathered n) e))
    | inr e ↦ subst (λ (l : List ℕ). Gathered (λ c. test c ≡ true) (suc n) l) (sym (left_out n e)) (gathered_out (λ c. test c ≡ true) n (suc n) (cards_where test n) (omega arith) (gathered n) (λ x le lt r. true≢false (sym r ∙ (ap test (let f : x ≡ n = omega (arith, le, lt) in f) ∙ e))))
  ]

  pub listed_is : (n card : ℕ) → Contains (cards_where test n) card → test card ≡ true
  listed_is n card c = (gathered n).only card c

  pub listed_below : (n card : ℕ) → Contains (cards_where test n) card → card < n
  listed_below n card c = subst (λ (m : ℕ). m < n) c.2 ((gathered n).below c.0 card c.1)

  pub is_listed : (n card : ℕ) → card < n → test card ≡ true → Contains (cards_where test n) card
  is_listed n card lt e = (gathered n).every card lt e

  -- how many there are
  counted : (n : ℕ) → length (cards_where test (suc n)) ≡ length (cards_where test n) + as_number (test n)
  counted n = length-append (cards_where test n) (cond (test n) (n ∷ []) []) ∙ ap (λ (m : ℕ). length (cards_where test n) + m) (one_or_none (test n))
    where
      one_or_none : (b : Bool) → length (cond b (n ∷ []) []) ≡ as_number b
      one_or_none true = refl
      one_or_none false = refl

  pub few : (n : ℕ) → length (cards_where test n) ≤ n
  few zero = omega arith
  few (suc n) = omega (arith, counted n, one_at_most (test n), few n)

  part : (n m : ℕ) → n ≤ m → length (cards_where test n) ≤ length (cards_where test m)
  part n zero le = omega (arith, ap (λ (i : ℕ). length (cards_where test i)) (let e : n ≡ 0 = omega (arith, le) in e))
  part n (suc m) le = elim (cases_eq n (suc m)) [
    | inl e ↦ omega (arith, ap (λ (i : ℕ). length (cards_where test i)) e)
    | inr ne ↦ omega (arith, counted m, part n m (omega (arith, le, ne)))
  ]

  pub one_counted : (limit from card : ℕ) → IsNext test limit from (Some card) → length (cards_where test (card + 1)) ≡ length (cards_where test from) + 1
  one_counted limit from card h = ap length (next_listed limit from card h) ∙ length_push (cards_where test from) card

  -- there is room for one more in the list where the next was found
  pub room_for : (limit from card : ℕ) → IsNext test limit from (Some card) → length (cards_where test from) < length (cards_where test limit)
  room_for limit from card h = omega (arith, one_counted limit from card h, part (card + 1) limit (let lt : card < limit = h.1 in omega arith))

  pub listed_distinct : (n : ℕ) → IsDistinct nat_eq (cards_where test n)
  unfolding IsDistinct
  listed_distinct zero = tt
  listed_distinct (suc n) = elim (cases_Bool (test n)) [
    | inl e ↦ subst (λ (l : List ℕ). IsDistinct nat_eq l) (sym (put_in n e)) (push_distinct (cards_where test n) n (listed_distinct n) (λ c. let lt = listed_below n n c in absurd (omega (arith, lt))))
    | inr e ↦ subst (λ (l : List ℕ). IsDistinct nat_eq l) (sym (left_out n e)) (listed_distinct n)
  ]

  -- the set of them has as many
  pub set_len : (n : ℕ) → set.len (set_of (cards_where test n)) ≡ length (cards_where test n)
  set_len n = distinct_len (cards_where test n) (listed_distinct n)

-- a walk from each card of the test to the next, whose reads find the words that it began with
module _ (test : List ℕ → ℕ → Bool) {words read : List ℕ} (limit from : ℕ) (same : read ≡ words) where
  of_first : (found : Option ℕ) → IsNext (test read) limit from found → IsNext (test words) limit from found
  of_first found = subst (λ (l : List ℕ). IsNext (test l) limit from found) same

  pub count_on : (card count : ℕ) → IsNext (test read) limit from (Some card) → count ≡ length (cards_where (test words) from) → count + 1 ≡ length (cards_where (test words) (card + 1))
  count_on card count next counted = ap (λ (n : ℕ). n + 1) counted ∙ sym (one_counted (test words) limit from card (of_first (Some card) next))

  pub count_end : (count : ℕ) → from ≤ limit → IsNext (test read) limit from None → count ≡ length (cards_where (test words) from) → count ≡ length (cards_where (test words) limit)
  count_end count within next counted = counted ∙ ap (λ (l : List ℕ). length l) (sym (none_listed (test words) limit from within (of_first None next)))

  pub room_on : (card : ℕ) (cards : List ℕ) → IsNext (test read) limit from (Some card) → cards ≡ cards_where (test words) from → length cards < length (cards_where (test words) limit)
  room_on card cards next listed = subst (λ (l : List ℕ). length l < length (cards_where (test words) limit)) (sym listed) (room_for (test words) limit from card (of_first (Some card) next))

  pub list_on : (card : ℕ) (cards : List ℕ) → IsNext (test read) limit from (Some card) → cards ≡ cards_where (test words) from → cards ++ card ∷ [] ≡ cards_where (test words) (card + 1)
  list_on card cards next listed = ap (λ (l : List ℕ). l ++ card ∷ []) listed ∙ sym (next_listed (test words) limit from card (of_first (Some card) next))

  pub list_end : (cards : List ℕ) → from ≤ limit → IsNext (test read) limit from None → cards ≡ cards_where (test words) from → cards ≡ cards_where (test words) limit
  list_end cards within next listed = listed ∙ sym (none_listed (test words) limit from within (of_first None next))

-- where each card of the test is one of two others
pub at_most_both : (f g h : ℕ → Bool) (n : ℕ) → ((c : ℕ) → c < n → f c ≡ true → (g c ≡ true) ⊎ (h c ≡ true)) → length (cards_where f n) ≤ length (cards_where g n) + length (cards_where h n)
at_most_both f g h zero each = omega arith
at_most_both f g h (suc n) each = omega (arith, counted f n, counted g n, counted h n, at_most_both f g h n (λ c lt. each c (omega (arith, lt))), either (f n) (g n) (h n) (each n (omega arith)))
  where
    either : (a b c : Bool) → (a ≡ true → (b ≡ true) ⊎ (c ≡ true)) → as_number a ≤ as_number b + as_number c
    either false b c h = omega arith
    either true b c h = elim (h refl) [ inl e ↦ omega (arith, ap as_number e) | inr e ↦ omega (arith, ap as_number e) ]

module _ (k : RaceShape) (words : List ℕ) (card : ℕ) where
  -- the pairs of the card with these regions
  abbrev pub with_regions : List ℕ → List (ℕ × ℕ)
  with_regions rs = flat_map (λ r. one_pair k words (card, r)) rs

  pub with_one : (rs : List ℕ) (r : ℕ) → with_regions (rs ++ r ∷ []) ≡ with_regions rs ++ one_pair k words (card, r)
  with_one rs r = flat_map-append (λ q. one_pair k words (card, q)) rs (r ∷ []) ∙ ap (λ (l : List (ℕ × ℕ)). with_regions rs ++ l) (append-nil (one_pair k words (card, r)))

  -- a word of 0 has no bit
  none_in : (r : ℕ) → has_block k words (card / 64) r ≡ false → one_pair k words (card, r) ≡ []
  none_in r e = pair_clear k words (card, r) (λ b.
      let zero_word : get_or words (bit_word k (card, r)) 0 ≡ 0 = eqb-true _ 0 (not-false _ e) in
      let z : 0 ≡ 1 = sym (ap (λ (n : ℕ). bit_at n (bit_index k (card, r))) zero_word ∙ bit_at-zero (bit_index k (card, r))) ∙ b in
      omega (arith, z))

  pub all_regions : (n : ℕ) → with_regions (block_regions k words (card / 64) n) ≡ pairs_of_card k words card n
  all_regions zero = refl
  all_regions (suc n) = elim (cases_Bool (has_block k words (card / 64) n)) [
    | inl e ↦ ap with_regions (put_in (has_block k words (card / 64)) n e) ∙ (with_one (block_regions k words (card / 64) n) n ∙ ap (λ (l : List (ℕ × ℕ)). l ++ one_pair k words (card, n)) (all_regions n))
    | inr e ↦ ap with_regions (left_out (has_block k words (card / 64)) n e) ∙ (all_regions n ∙ sym (ap (λ (l : List (ℕ × ℕ)). pairs_of_card k words card n ++ l) (none_in n e) ∙ append-nil (pairs_of_card k words card n)))
  ]

  pub block_below : (n : ℕ) (rs : List ℕ) (i : ℕ) → rs ≡ block_regions k words (card / 64) n → i < length rs → get_or rs i 0 < n
  block_below n rs i e lt = listed_below (has_block k words (card / 64)) n (get_or rs i 0) (subst (λ (l : List ℕ). Contains l (get_or rs i 0)) e (Contains-get_or rs i 0 lt))
