-- The lists by region: what they contain, before and after a card is inserted.
use Rattle.std.specs.Prelude.{◌≡◌, ◌⊎◌, ◌<◌, ◌∷◌, ◌++◌}
use Rattle.g1_sets.specs.{inl, inr, ℕ, zero, suc, List, [], length, refl, sym, ap, ◌∙◌, subst, arith, length-set, Contains, All, nat_eq, slice_set, replicate, IsDistinct, cases_eq, get_or-set_same, get_or-set_other, length-replicate, Contains-append_left, Contains-append_right, Contains-append_cases, Contains-push, Contains-push_cases, Shape, card_count, list_at, with_card, Joins, AreLists}
use Rattle.g1_sets.proofs.CardLemmas.{has_cases, Contains-with_card, Contains-with_card_old, Contains-with_card_cases, IsDistinct-with_card, All-with_card, with_card-again}

pub list_at-set_same : (lists : List (List ℕ)) (region : ℕ) (cards : List ℕ) (r : ℕ) → region < length lists → r ≡ region → list_at (slice_set lists region cards) r ≡ cards
list_at-set_same lists region cards r lt is = subst (λ q. list_at (slice_set lists region cards) q ≡ cards) (sym is) (get_or-set_same lists region cards [] lt)

pub list_at-set_other : (lists : List (List ℕ)) (region : ℕ) (cards : List ℕ) (r : ℕ) → (r ≡ region → ⊥) → list_at (slice_set lists region cards) r ≡ list_at lists r
list_at-set_other lists region cards r ne = get_or-set_other lists region r cards [] ne

-- no region yet
pub joins_none : (card : ℕ) (lists : List (List ℕ)) → Joins card [] lists lists
joins_none card lists = record {
  count = refl;
  joined = λ r h. absurd (let lt : h.0 < 0 = h.1 in omega (arith, lt));
  others = λ r _. refl;
}

-- one region more, whose list gains the card
pub joins_more : (card : ℕ) (regions : List ℕ) (old now new : List (List ℕ)) (region : ℕ) → Joins card regions old now → length new ≡ length now → list_at new region ≡ with_card (list_at now region) card
    → ((r : ℕ) → (r ≡ region → ⊥) → list_at new r ≡ list_at now r) → Joins card (regions ++ region ∷ []) old new
joins_more card regions old now new region so_far long at apart =
    let here : with_card (list_at now region) card ≡ with_card (list_at old region) card = elim (has_cases regions region) [
      | inl before ↦ ap (λ cs. with_card cs card) (so_far.joined region before) ∙ with_card-again (list_at old region) card
      | inr never ↦ ap (λ cs. with_card cs card) (so_far.others region never)
    ] in
    record {
      count = long ∙ so_far.count;
      joined = λ r h. elim (cases_eq r region) [
        | inl is ↦ ap (list_at new) is ∙ at ∙ here ∙ ap (λ q. with_card (list_at old q) card) (sym is)
        | inr ne ↦ elim (Contains-push_cases regions region r h) [
          | inl before ↦ apart r ne ∙ so_far.joined r before
          | inr is ↦ absurd (ne (sym is))
        ]
      ];
      others = λ r never. elim (cases_eq r region) [
        | inl is ↦ absurd (never (subst (Contains (regions ++ region ∷ [])) (sym is) (Contains-push regions region)))
        | inr ne ↦ apart r ne ∙ so_far.others r (λ h. never (Contains-append_left regions (region ∷ []) r h))
      ];
    }

-- one region first, and then the others
pub joins_first : (card region : ℕ) (others : List ℕ) (old mid new : List (List ℕ)) → Joins card (region ∷ []) old mid → Joins card others mid new → Joins card (region ∷ others) old new
joins_first card region others old mid new first later = record {
  count = later.count ∙ first.count;
  joined = λ r h. elim (has_cases others r) [
    | inl named ↦ later.joined r named ∙ elim (has_cases (region ∷ []) r) [
      | inl is ↦ ap (λ cs. with_card cs card) (first.joined r is) ∙ with_card-again (list_at old r) card
      | inr ne ↦ ap (λ cs. with_card cs card) (first.others r ne)
    ]
    | inr never ↦ later.others r never ∙ first.joined r (elim (Contains-append_cases (region ∷ []) others r h) [ inl is ↦ is | inr named ↦ absurd (never named) ])
  ];
  others = λ r never. later.others r (λ h. never (Contains-append_right (region ∷ []) others r h)) ∙ first.others r (λ h. never (Contains-append_left (region ∷ []) others r h));
}

-- what the lists contain afterwards
module _ (card : ℕ) (regions : List ℕ) (old new : List (List ℕ)) (joins : Joins card regions old new) where
  pub joins_cases : (c r : ℕ) → Contains (list_at new r) c → Contains (list_at old r) c ⊎ ((c ≡ card) × Contains regions r)
  joins_cases c r h = elim (has_cases regions r) [
    | inl named ↦ elim (Contains-with_card_cases (list_at old r) card c (subst (λ cs. Contains cs c) (joins.joined r named) h)) [
      | inl before ↦ inl before
      | inr is ↦ inr (sym is, named)
    ]
    | inr never ↦ inl (subst (λ cs. Contains cs c) (joins.others r never) h)
  ]

  pub joins_old : (c r : ℕ) → Contains (list_at old r) c → Contains (list_at new r) c
  joins_old c r h = elim (has_cases regions r) [
    | inl named ↦ subst (λ cs. Contains cs c) (sym (joins.joined r named)) (Contains-with_card_old (list_at old r) card c h)
    | inr never ↦ subst (λ cs. Contains cs c) (sym (joins.others r never)) h
  ]

  pub joins_new : (r : ℕ) → Contains regions r → Contains (list_at new r) card
  joins_new r named = subst (λ cs. Contains cs card) (sym (joins.joined r named)) (Contains-with_card (list_at old r) card)

  pub joins_lists : (l : Shape) → card < card_count l → AreLists l old → AreLists l new
  joins_lists l within lists = record {
    count = joins.count ∙ lists.count;
    distinct = λ r. elim (has_cases regions r) [
      | inl named ↦ subst (IsDistinct nat_eq) (sym (joins.joined r named)) (IsDistinct-with_card (list_at old r) card (lists.distinct r))
      | inr never ↦ subst (IsDistinct nat_eq) (sym (joins.others r never)) (lists.distinct r)
    ];
    below = λ r. elim (has_cases regions r) [
      | inl named ↦ subst (All (λ c. c < card_count l)) (sym (joins.joined r named)) (All-with_card (list_at old r) card (λ c. c < card_count l) (lists.below r) within)
      | inr never ↦ subst (All (λ c. c < card_count l)) (sym (joins.others r never)) (lists.below r)
    ];
  }

-- one list is another
module _ (l : Shape) (lists : List (List ℕ)) (region : ℕ) (within : region < length lists) (old : AreLists l lists) where
  pub replaced_lists : (cards : List ℕ) → IsDistinct nat_eq cards → All (λ c. c < card_count l) cards → AreLists l (slice_set lists region cards)
  replaced_lists cards distinct below = record {
    count = length-set lists region cards ∙ old.count;
    distinct = λ r. elim (cases_eq r region) [
      | inl is ↦ subst (IsDistinct nat_eq) (sym (list_at-set_same lists region cards r within is)) distinct
      | inr ne ↦ subst (IsDistinct nat_eq) (sym (list_at-set_other lists region cards r ne)) (old.distinct r)
    ];
    below = λ r. elim (cases_eq r region) [
      | inl is ↦ subst (All (λ c. c < card_count l)) (sym (list_at-set_same lists region cards r within is)) below
      | inr ne ↦ subst (All (λ c. c < card_count l)) (sym (list_at-set_other lists region cards r ne)) (old.below r)
    ];
  }

  pub emptied_lists : AreLists l (slice_set lists region [])
  unfolding IsDistinct
  emptied_lists = replaced_lists [] tt (λ k d lt. absurd (omega (arith, lt)))

-- no list has a card
pub none_listed : (n k : ℕ) → list_at (replicate n []) k ≡ []
none_listed zero k = refl
none_listed (suc n) zero = refl
none_listed (suc n) (suc k) = none_listed n k

pub empty_lists : (l : Shape) → AreLists l (replicate l.regions [])
unfolding IsDistinct
empty_lists l = record {
  count = length-replicate l.regions [];
  distinct = λ r. subst (IsDistinct nat_eq) (sym (none_listed l.regions r)) tt;
  below = λ r. subst (All (λ c. c < card_count l)) (sym (none_listed l.regions r)) (λ k d lt. absurd (omega (arith, lt)));
}
