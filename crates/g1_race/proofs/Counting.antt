-- How many pairs are recorded at a pause.
use Rattle.std.specs.Prelude.{◌≡◌, ◌+◌, ◌*◌, ◌<◌, ◌≤◌, ◌^◌, ◌∷◌, ◌++◌}
use Rattle.g1_race.specs.{suc-mul, ℕ, zero, suc, List, [], length, Contains, refl, sym, ap, ◌∙◌, subst, inl, inr, arith, eq-eqb, nat_eq, sum_by, IsDistinct, mul-le-mul, mul-le-mul_left, cases_lt, get_or_append_left, get_or_past, get_or_push, length_push, sum_by_push, card_count, All_by_member, same_pairs, in_pairs, RaceShape, IsBegun, IsWholeShape, pairs_up_to, started, shape_of, ended, table_of, is_member, member_cards, pair_count}
use Rattle.std.proofs.Common.{eqb-true}
use Rattle.std.specs.FinSet as set
use Rattle.g1_layout.specs.Shape as layout
use Rattle.g1_sets.specs.Pairs.{AreLists, list_at, pairs_of}
use Rattle.g1_sets.proofs.BoundLemmas.{few_outside}
use Rattle.g1_sets.proofs.PairLemmas.{in_set, to_set}
use Rattle.g1_sets.proofs.TotalLemmas.{total_is}
use Rattle.g1_race.proofs.Ends.{pair_listed, recorded_set, set_recorded}
use Rattle.g1_race.proofs.NextCards.{cards_fit}
use Rattle.g1_race.proofs.Telling.{few, is_listed, listed_below, listed_distinct, listed_is}

module _ (k : RaceShape) (words : List ℕ) where
  -- the cards of each of the first n regions' sets
  abbrev lists : ℕ → List (List ℕ)
  lists zero = []
  lists (suc r) = lists r ++ member_cards k words r ∷ []

  lists_len : (n : ℕ) → length (lists n) ≡ n
  lists_len zero = refl
  lists_len (suc n) = length_push (lists n) (member_cards k words n) ∙ (let e : length (lists n) + 1 ≡ suc n = omega (arith, lists_len n) in e)

  list_here : (n r : ℕ) → r < n → list_at (lists n) r ≡ member_cards k words r
  list_here zero r lt = absurd (omega arith)
  list_here (suc n) r lt = elim (cases_lt r n) [
    | inl low ↦ get_or_append_left (lists n) (member_cards k words n ∷ []) [] r (omega (arith, low, lists_len n)) ∙ list_here n r low
    | inr high ↦ let e : r ≡ n = omega (arith, high, lt) in get_or_push (lists n) (member_cards k words n) [] r (lists_len n ∙ sym e) ∙ ap (member_cards k words) (sym e)
  ]

  list_past : (n r : ℕ) → n ≤ r → list_at (lists n) r ≡ []
  list_past n r le = get_or_past (lists n) r [] (omega (arith, lists_len n, le))

  total : (n : ℕ) → sum_by length (lists n) ≡ pair_count k words n
  total zero = refl
  total (suc n) = sum_by_push length (lists n) (member_cards k words n) ∙ ap (λ (x : ℕ). x + length (member_cards k words n)) (total n)

  pub counted : (n : ℕ) → pair_count k words (n + 1) ≡ pair_count k words n + length (member_cards k words n)
  counted n = ap (pair_count k words) (let e : n + 1 ≡ suc n = omega arith in e)

  at_most : (n : ℕ) → pair_count k words n ≤ n * k.cards
  at_most zero = omega arith
  at_most (suc n) = omega (arith, few (is_member k words n) k.cards, at_most n, suc-mul n k.cards)

  -- their number fits a word
  pub fits : (n : ℕ) → IsWholeShape k → n ≤ k.regions → pair_count k words n < 2 ^ 64
  fits n shaped le =
      let one : k.regions * 1 ≤ k.regions * k.span = mul-le-mul_left k.regions (let some_slot : 1 ≤ k.span = omega (arith, shaped.2) in some_slot) in
      let most : n * k.cards ≤ 4294967295 * 4294967295 = mul-le-mul (let few_regions : n ≤ 4294967295 = omega (arith, le, one, shaped.6, shaped.3) in few_regions) (let few_cards : k.cards ≤ 4294967295 = omega (arith, cards_fit k shaped) in few_cards) in
      omega (arith, at_most n, most)

module _ (k : RaceShape) (l : layout.Shape) (laid : k ≡ shape_of l k.parties) (words : List ℕ) (h : IsBegun (started k words)) where
  abbrev all : List (List ℕ)
  all = lists k words k.regions

  -- the lists are those of the heap, and have its pairs

  distinct : (r : ℕ) → IsDistinct nat_eq (list_at all r)
  distinct r = elim (cases_lt r k.regions) [
    | inl low ↦ subst (IsDistinct nat_eq) (sym (list_here k words k.regions r low)) (listed_distinct (is_member k words r) k.cards)
    | inr high ↦ subst (IsDistinct nat_eq) (sym (list_past k words k.regions r high)) (listed_distinct (is_member k words r) 0)
  ]

  -- a card of a list
  in_list : (r c : ℕ) → Contains (list_at all r) c → (r < k.regions) × Contains (member_cards k words r) c
  in_list r c i = elim (cases_lt r k.regions) [
    | inl low ↦ (low, subst (λ (cs : List ℕ). Contains cs c) (list_here k words k.regions r low) i)
    | inr high ↦ absurd (let e = subst (λ (cs : List ℕ). Contains cs c) (list_past k words k.regions r high) i in omega (arith, e.1))
  ]

  are : AreLists l all
  are = record {
    count = lists_len k words k.regions ∙ ap (λ (s : RaceShape). s.regions) laid;
    distinct = distinct;
    below = λ r. All_by_member (λ c. c < card_count l) (list_at all r) (λ c i. subst (λ (n : ℕ). c < n) (ap (λ (s : RaceShape). s.cards) laid) (listed_below (is_member k words r) k.cards c (in_list r c i).1));
  }

  pairs_are : pairs_of all ≡ (table_of (ended l k words)).recorded
  pairs_are = same_pairs (pairs_of all) (table_of (ended l k words)).recorded
      (λ x c.
      let i = in_list x.1 x.0 (in_set all x.0 x.1 c) in
      set_recorded k l words laid h x (listed_below (is_member k words x.1) k.cards x.0 i.1, i.0) (eqb-true _ 1 (listed_is (is_member k words x.1) k.cards x.0 i.1)))
      (λ x c.
      let s = recorded_set k l words laid h x c in
      to_set all x.0 x.1 (subst (λ (cs : List ℕ). Contains cs x.0) (sym (list_here k words k.regions x.1 s.0.1)) (is_listed (is_member k words x.1) k.cards x.0 s.0.0 (eq-eqb _ 1 s.1))))

  pub count_is : pair_count k words k.regions ≡ set.len (table_of (ended l k words)).recorded
  count_is = sym (total k words k.regions) ∙ (total_is all distinct ∙ ap (λ ps. set.len ps) pairs_are)

  -- card 0 lies in region 0, so that not all pairs are recorded
  pub few_recorded : layout.IsShape l → pair_count k words k.regions < 2 ^ 32
  few_recorded shape = subst (λ (n : ℕ). n < 2 ^ 32) (total k words k.regions) (few_outside l all shape are (λ i.
      let m = in_list 0 0 i in
      let r = set_recorded k l words laid h (0, 0) (listed_below (is_member k words 0) k.cards 0 m.1, m.0) (eqb-true _ 1 (listed_is (is_member k words 0) k.cards 0 m.1)) in
      (pair_listed k l words laid h (0, 0) (in_pairs (pairs_up_to k words k.cards) (0, 0) r)).2 (omega arith)))
