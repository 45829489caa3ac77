-- The set of the pairs that the lists by region make up.
use Rattle.std.specs.Prelude.{◌≡◌, ◌⊎◌, ◌<◌, ◌+◌, ◌∷◌}
use Rattle.g1_sets.specs.{inl, inr, ℕ, zero, suc, true, eqb, List, [], length, map, refl, sym, ap, ◌∙◌, subst, arith, Vec, Global, Contains, not, nat_eq, slice_set, replicate, Result, Ok, Err, IfOk, cases_eq, or_cases, or_left, or_right, and_parts, and_from, eq-eqb, ne_eqb, not-true, true≢false, Contains-append_left, Contains-append_right, Contains-append_cases, list_any, Shape, pair_cmp, PairSet, list_at, of_card, of_region, without, with_cards, pairs_from, pairs_of, Joins, AreCardsOf, AreLists, AreTied, AreInOrder}
use Rattle.std.specs.FinSet as set
pub use Rattle.g1_layout.proofs.SetLemmas.{pair_exact, same_bools, same_pairs, pair_total, in_pairs, to_pairs, of_card_from, of_card_to}
use Rattle.g1_sets.proofs.ListLemmas.{joins_cases, joins_old, joins_new, list_at-set_same, list_at-set_other}
use Rattle.g1_sets.proofs.CardLemmas.{in_list, to_list, Contains-with_cards, Contains-with_cards_old, Contains-with_cards_cases}

-- the pairs of some cards with one region
pub row_from : (cards : List ℕ) (region : ℕ) (p : ℕ × ℕ) → Contains (map (λ (c : ℕ). (c, region)) cards) p → Contains cards p.0 × (p.1 ≡ region)
row_from [] region p (k, lt, e) = absurd (omega (arith, lt))
row_from (c ∷ cs) region p (zero, lt, e) = ((0, omega arith, ap (λ (q : ℕ × ℕ). q.0) e), ap (λ (q : ℕ × ℕ). q.1) (sym e))
row_from (c ∷ cs) region p (suc k, lt, e) =
    let rest : Contains cs p.0 × (p.1 ≡ region) = row_from cs region p (k, omega (arith, lt), e) in
    ((suc rest.0.0, omega (arith, rest.0.1), rest.0.2), rest.1)

row_to : (cards : List ℕ) (region card r : ℕ) → r ≡ region → Contains cards card → Contains {X = ℕ × ℕ} (map (λ (c : ℕ). (c, region)) cards) (card, r)
row_to [] region card r at (k, lt, e) = absurd (omega (arith, lt))
row_to (c ∷ cs) region card r at (zero, lt, e) = (0, omega arith, λ i. (e i, sym at i))
row_to (c ∷ cs) region card r at (suc k, lt, e) =
    let rest : Contains {X = ℕ × ℕ} (map (λ (c : ℕ). (c, region)) cs) (card, r) = row_to cs region card r at (k, omega (arith, lt), e) in
    (suc rest.0, omega (arith, rest.1), rest.2)

-- the pairs of all lists
pub from_pairs : (first : ℕ) (lists : List (List ℕ)) (p : ℕ × ℕ) → Contains (pairs_from first lists) p → (k : ℕ) × (p.1 ≡ first + k) × Contains (list_at lists k) p.0
from_pairs first [] p (k, lt, e) = absurd (omega (arith, lt))
from_pairs first (cards ∷ lists) p h = elim (Contains-append_cases (map (λ (c : ℕ). (c, first)) cards) (pairs_from (first + 1) lists) p h) [
  | inl row ↦ let r : Contains cards p.0 × (p.1 ≡ first) = row_from cards first p row in (0, omega (arith, r.1), r.0)
  | inr rest ↦ let r : (k : ℕ) × (p.1 ≡ first + 1 + k) × Contains (list_at lists k) p.0 = from_pairs (first + 1) lists p rest in (suc r.0, omega (arith, r.1), r.2)
]

pub in_none : {X : Type 0} (k : ℕ) (card : ℕ) → Contains (list_at [] k) card → X
in_none k card (j, lt, e) = absurd (omega (arith, lt))

to_all : (first : ℕ) (lists : List (List ℕ)) (k card region : ℕ) → region ≡ first + k → Contains (list_at lists k) card → Contains {X = ℕ × ℕ} (pairs_from first lists) (card, region)
to_all first [] k card region at h = in_none k card h
to_all first (cards ∷ lists) zero card region at h = Contains-append_left (map (λ (c : ℕ). (c, first)) cards) (pairs_from (first + 1) lists) (card, region) (row_to cards first card region (omega (arith, at)) h)
to_all first (cards ∷ lists) (suc k) card region at h = Contains-append_right (map (λ (c : ℕ). (c, first)) cards) (pairs_from (first + 1) lists) (card, region) (to_all (first + 1) lists k card region (omega (arith, at)) h)

-- a pair is recorded just where its card is in the region's list
pub to_set : (lists : List (List ℕ)) (card region : ℕ) → Contains (list_at lists region) card → set.contains (pairs_of lists) (card, region) ≡ true
to_set lists card region h = to_pairs (pairs_from 0 lists) (card, region) (to_all 0 lists region card region (omega arith) h)

pub in_set : (lists : List (List ℕ)) (card region : ℕ) → set.contains (pairs_of lists) (card, region) ≡ true → Contains (list_at lists region) card
in_set lists card region h =
    let r : (k : ℕ) × (region ≡ 0 + k) × Contains (list_at lists k) card = from_pairs 0 lists (card, region) (in_pairs (pairs_from 0 lists) (card, region) h) in
    subst (λ k. Contains (list_at lists k) card) (omega (arith, r.1)) r.2

-- a card joined some regions
pub joined_pairs : (card : ℕ) (regions : List ℕ) (old new : List (List ℕ)) → Joins card regions old new → pairs_of new ≡ set.union (pairs_of old) (of_card card regions)
joined_pairs card regions old new joins = same_pairs _ _
    (λ p c. set.contains-union pair_total (pairs_of old) (of_card card regions) p ∙ elim (joins_cases card regions old new joins p.0 p.1 (in_set new p.0 p.1 c)) [
      | inl before ↦ or_left _ _ (to_set old p.0 p.1 before)
      | inr now ↦ or_right _ _ (to_pairs _ p (of_card_to card regions p now.0 now.1))
    ])
    (λ p c. to_set new p.0 p.1 (elim (or_cases _ _ (sym (set.contains-union pair_total (pairs_of old) (of_card card regions) p) ∙ c)) [
      | inl before ↦ joins_old card regions old new joins p.0 p.1 (in_set old p.0 p.1 before)
      | inr now ↦
          let m : (p.0 ≡ card) × Contains regions p.1 = of_card_from card regions p (in_pairs _ p now) in
          subst (Contains (list_at new p.1)) (sym m.0) (joins_new card regions old new joins p.1 m.1)
    ]))

-- some cards joined one region
module _ (lists : List (List ℕ)) (region : ℕ) (cards : List ℕ) (within : region < length lists) where
  pub many_cases : (p : ℕ × ℕ) → Contains (list_at (slice_set lists region (with_cards (list_at lists region) cards)) p.1) p.0 → Contains (list_at lists p.1) p.0 ⊎ (Contains cards p.0 × (p.1 ≡ region))
  many_cases p h = elim (cases_eq p.1 region) [
    | inl is ↦ elim (Contains-with_cards_cases (list_at lists region) cards p.0 (subst (λ cs. Contains cs p.0) (list_at-set_same lists region _ p.1 within is) h)) [
      | inl before ↦ inl (subst (λ r. Contains (list_at lists r) p.0) (sym is) before)
      | inr now ↦ inr (now, is)
    ]
    | inr ne ↦ inl (subst (λ cs. Contains cs p.0) (list_at-set_other lists region _ p.1 ne) h)
  ]

  pub many_old : (p : ℕ × ℕ) → Contains (list_at lists p.1) p.0 → Contains (list_at (slice_set lists region (with_cards (list_at lists region) cards)) p.1) p.0
  many_old p h = elim (cases_eq p.1 region) [
    | inl is ↦ subst (λ cs. Contains cs p.0) (sym (list_at-set_same lists region _ p.1 within is)) (Contains-with_cards_old (list_at lists region) cards p.0 (subst (λ r. Contains (list_at lists r) p.0) is h))
    | inr ne ↦ subst (λ cs. Contains cs p.0) (sym (list_at-set_other lists region _ p.1 ne)) h
  ]

  pub many_new : (p : ℕ × ℕ) → Contains cards p.0 → p.1 ≡ region → Contains (list_at (slice_set lists region (with_cards (list_at lists region) cards)) p.1) p.0
  many_new p h is = subst (λ cs. Contains cs p.0) (sym (list_at-set_same lists region _ p.1 within is)) (Contains-with_cards (list_at lists region) cards p.0 h)

  pub many_pairs : pairs_of (slice_set lists region (with_cards (list_at lists region) cards)) ≡ set.union (pairs_of lists) (of_region cards region)
  many_pairs = same_pairs _ _
      (λ p c. set.contains-union pair_total (pairs_of lists) (of_region cards region) p ∙ elim (many_cases p (in_set _ p.0 p.1 c)) [
        | inl before ↦ or_left _ _ (to_set lists p.0 p.1 before)
        | inr now ↦ or_right _ _ (to_pairs _ p (row_to cards region p.0 p.1 now.1 now.0))
      ])
      (λ p c. to_set _ p.0 p.1 (elim (or_cases _ _ (sym (set.contains-union pair_total (pairs_of lists) (of_region cards region) p) ∙ c)) [
        | inl before ↦ many_old p (in_set lists p.0 p.1 before)
        | inr now ↦ let m : Contains cards p.0 × (p.1 ≡ region) = row_from cards region p (in_pairs _ p now) in many_new p m.0 m.1
      ]))

in_without : (pairs : PairSet) (region : ℕ) (p : ℕ × ℕ) → set.contains (without pairs region) p ≡ true → (set.contains pairs p ≡ true) × (p.1 ≡ region → ⊥)
in_without pairs region p c =
    let parts = and_parts _ _ (sym (set.contains-retain pairs (λ pair. not (eqb pair.1 region)) p (λ x e. ap (λ (q : ℕ × ℕ). not (eqb q.1 region)) (sym (pair_exact p x e)))) ∙ c) in
    (parts.0, λ e. true≢false (sym (eq-eqb p.1 region e) ∙ not-true _ parts.1))

to_without : (pairs : PairSet) (region : ℕ) (p : ℕ × ℕ) → set.contains pairs p ≡ true → (p.1 ≡ region → ⊥) → set.contains (without pairs region) p ≡ true
to_without pairs region p c ne =
    set.contains-retain pairs (λ pair. not (eqb pair.1 region)) p (λ x e. ap (λ (q : ℕ × ℕ). not (eqb q.1 region)) (sym (pair_exact p x e))) ∙ and_from _ _ c (ap not (ne_eqb _ _ ne))

-- the list of a region was emptied
pub emptied_pairs : (lists : List (List ℕ)) (region : ℕ) → region < length lists → pairs_of (slice_set lists region []) ≡ without (pairs_of lists) region
emptied_pairs lists region within = same_pairs _ _
    (λ p c. elim (cases_eq p.1 region) [
      | inl is ↦ in_none 0 p.0 (subst (λ cs. Contains cs p.0) (list_at-set_same lists region [] p.1 within is) (in_set _ p.0 p.1 c))
      | inr ne ↦ to_without (pairs_of lists) region p (to_set lists p.0 p.1 (subst (λ cs. Contains cs p.0) (list_at-set_other lists region [] p.1 ne) (in_set _ p.0 p.1 c))) ne
    ])
    (λ p c.
    let m = in_without (pairs_of lists) region p c in
    to_set _ p.0 p.1 (subst (λ cs. Contains cs p.0) (sym (list_at-set_other lists region [] p.1 m.1)) (in_set lists p.0 p.1 m.0)))

-- where no list has a card no pair is recorded
pub none_recorded : (n : ℕ) → pairs_of (replicate n []) ≡ set.empty
none_recorded n = ap (λ ps. set.from_list {R = pair_cmp} ps) (none 0 n)
  where
    none : (first n : ℕ) → pairs_from first (replicate n []) ≡ []
    none first zero = refl
    none first (suc n) = none (first + 1) n

-- the test of a region's list answers whether the pair is recorded
pub found : (lists : List (List ℕ)) (card region : ℕ) → list_any (nat_eq card) (list_at lists region) ≡ set.contains (pairs_of lists) (card, region)
found lists card region = same_bools _ _ (λ h. to_set lists card region (in_list _ card h)) (λ h. to_list _ card (in_set lists card region h))

-- the pairs of the lists are tied to them
pub tied : (l : Shape) (lists : List (List ℕ)) → AreLists l lists → AreTied (record { layout = l; pairs = pairs_of lists; lists = lists })
tied l lists are = record {
  lists = are;
  members = λ card region. (to_set lists card region, in_set lists card region);
}

-- the list of a region, in order
pub cards_in_order : (l : Shape) (lists : List (List ℕ)) → AreLists l lists → (region : ℕ) (cards : List ℕ) → AreInOrder (list_at lists region) cards → AreCardsOf (pairs_of lists) region cards
cards_in_order l lists are region cards h = record {
  ascending = h.ascending;
  recorded = λ card m. to_set lists card region (h.listed card m);
  all = λ card m. h.all card (in_set lists card region m);
}

-- the same, where there was memory
pub cards_if : {E : Type 0} (l : Shape) (lists : List (List ℕ)) → AreLists l lists → (region : ℕ) → (r : Result (Vec ℕ Global) E) → IfOk r (λ cards. AreInOrder (list_at lists region) cards.items)
    → IfOk r (λ cards. AreCardsOf (pairs_of lists) region cards.items)
cards_if l lists are region (Ok cards) h = cards_in_order l lists are region cards.items h
cards_if l lists are region (Err e) h = h
