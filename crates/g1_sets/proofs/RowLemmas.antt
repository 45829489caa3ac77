-- The rows of cards, as cards join lists and leave them.
use Rattle.std.specs.Prelude.{◌≡◌, ◌<◌, ◌∷◌, ◌++◌}
use Rattle.g1_sets.specs.{inl, inr, ℕ, List, [], length, get_or, sym, ap, ◌∙◌, subst, arith, length-set, All, Contains, slice_set, replicate, cases_eq, get_or-set_same, get_or-set_other, get_or_default, get_or-replicate, length-replicate, Contains-append_left, Contains-push, Contains-push_cases, Shape, card_count, RegionSet, HasRegion, Gains, Loses, list_at, with_card, with_cards, Joins, row_at, IsRowOf, AreSets, RowsGain, RowsLose}
use Rattle.g1_sets.proofs.ListLemmas.{list_at-set_same, list_at-set_other, joins_cases, joins_old, joins_lists, replaced_lists, emptied_lists, none_listed, empty_lists}
use Rattle.g1_sets.proofs.CardLemmas.{Contains-with_card, IsDistinct-with_cards, All-with_cards}
use Rattle.g1_sets.proofs.PairLemmas.{in_none, many_cases, many_old, many_new}

row_at-set_same : (rows : List RegionSet) (n : ℕ) (row : RegionSet) (card : ℕ) → n < length rows → card ≡ n → row_at (slice_set rows n row) card ≡ row
row_at-set_same rows n row card within is = ap (row_at (slice_set rows n row)) is ∙ get_or-set_same rows n row (record { words = [] }) within

row_at-set_other : (rows : List RegionSet) (n : ℕ) (row : RegionSet) (card : ℕ) → (card ≡ n → ⊥) → row_at (slice_set rows n row) card ≡ row_at rows card
row_at-set_other rows n row card ne = get_or-set_other rows n card row (record { words = [] }) ne

-- the row that is read
pub row_read : (rows : List RegionSet) (n : ℕ) (row : RegionSet) (card : ℕ) → row ≡ get_or rows n row → n ≡ card → n < length rows → row_at rows card ≡ row
row_read rows n row card is at within = ap (row_at rows) (sym at) ∙ get_or_default rows n (record { words = [] }) row within ∙ sym is

-- a card joined a list, and its row gained the region
pub row_joined : (lists : List (List ℕ)) (card : ℕ) (old new : RegionSet) (region : ℕ) → region < length lists → IsRowOf lists card old → Gains old region new → IsRowOf (slice_set lists region (with_card (list_at lists region) card)) card new
row_joined lists card old new region within is gains r = elim (cases_eq r region) [
  | inl e ↦ (
    λ _. subst (λ cs. Contains cs card) (sym (list_at-set_same lists region (with_card (list_at lists region) card) r within e)) (Contains-with_card (list_at lists region) card),
    λ _. (gains r).1 (inr e),
  )
  | inr ne ↦
      let same : list_at (slice_set lists region (with_card (list_at lists region) card)) r ≡ list_at lists r = list_at-set_other lists region (with_card (list_at lists region) card) r ne in (
        λ h. elim ((gains r).0 h) [ inl was ↦ subst (λ cs. Contains cs card) (sym same) ((is r).0 was) | inr e ↦ absurd (ne e) ],
        λ h. (gains r).1 (inl ((is r).1 (subst (λ cs. Contains cs card) same h))),
      )
]

-- the rows of no card
pub gain_none : (region : ℕ) (rows : List RegionSet) → RowsGain [] region rows rows
gain_none region rows card r = (λ h. inl h, λ h. elim h [ inl was ↦ was | inr now ↦ absurd (let lt : now.0.0 < 0 = now.0.1 in omega (arith, lt)) ])

pub lose_none : (region : ℕ) (rows : List RegionSet) → RowsLose [] region rows rows
lose_none region rows card r = (λ h. (h, λ now. let lt : now.0.0 < 0 = now.0.1 in absurd (omega (arith, lt))), λ h. h.0)

-- the row of one card more
module _ (cards : List ℕ) (region : ℕ) (old now : List RegionSet) (n : ℕ) (row : RegionSet) (within : n < length now) where
  listed_cases : (card : ℕ) → Contains (cards ++ n ∷ []) card → (card ≡ n → ⊥) → Contains cards card
  listed_cases card h ne = elim (Contains-push_cases cards n card h) [ inl before ↦ before | inr is ↦ absurd (ne (sym is)) ]

  pub gain_more : RowsGain cards region old now → Gains (row_at now n) region row → RowsGain (cards ++ n ∷ []) region old (slice_set now n row)
  gain_more so_far gains card r = elim (cases_eq card n) [
    | inl is ↦
        let at = row_at-set_same now n row card within is in
        let here : Contains (cards ++ n ∷ []) card = subst (Contains (cards ++ n ∷ [])) (sym is) (Contains-push cards n) in
        let was : row_at now n ≡ row_at now card = ap (row_at now) (sym is) in (
          λ h. elim ((gains r).0 (subst (λ w. HasRegion w r) at h)) [
            | inl before ↦ elim ((so_far card r).0 (subst (λ w. HasRegion w r) was before)) [ inl o ↦ inl o | inr m ↦ inr (here, m.1) ]
            | inr e ↦ inr (here, e)
          ],
          λ h. subst (λ w. HasRegion w r) (sym at) (elim h [
            | inl o ↦ (gains r).1 (inl (subst (λ w. HasRegion w r) (sym was) ((so_far card r).1 (inl o))))
            | inr m ↦ (gains r).1 (inr m.1)
          ]),
        )
    | inr ne ↦
        let at = row_at-set_other now n row card ne in (
          λ h. elim ((so_far card r).0 (subst (λ w. HasRegion w r) at h)) [ inl o ↦ inl o | inr m ↦ inr (Contains-append_left cards (n ∷ []) card m.0, m.1) ],
          λ h. subst (λ w. HasRegion w r) (sym at) ((so_far card r).1 (elim h [ inl o ↦ inl o | inr m ↦ inr (listed_cases card m.0 ne, m.1) ])),
        )
  ]

  pub lose_more : RowsLose cards region old now → Loses (row_at now n) region row → RowsLose (cards ++ n ∷ []) region old (slice_set now n row)
  lose_more so_far loses card r = elim (cases_eq card n) [
    | inl is ↦
        let at = row_at-set_same now n row card within is in
        let here : Contains (cards ++ n ∷ []) card = subst (Contains (cards ++ n ∷ [])) (sym is) (Contains-push cards n) in
        let was : row_at now n ≡ row_at now card = ap (row_at now) (sym is) in (
          λ h. let m = (loses r).0 (subst (λ w. HasRegion w r) at h) in (((so_far card r).0 (subst (λ w. HasRegion w r) was m.0)).0, λ both. m.1 both.1),
          λ h. subst (λ w. HasRegion w r) (sym at) ((loses r).1 (subst (λ w. HasRegion w r) (sym was) ((so_far card r).1 (h.0, λ both. h.1 (here, both.1))), λ e. h.1 (here, e))),
        )
    | inr ne ↦
        let at = row_at-set_other now n row card ne in (
          λ h. let m = (so_far card r).0 (subst (λ w. HasRegion w r) at h) in (m.0, λ both. m.1 (listed_cases card both.0 ne, both.1)),
          λ h. subst (λ w. HasRegion w r) (sym at) ((so_far card r).1 (h.0, λ both. h.1 (Contains-append_left cards (n ∷ []) card both.0, both.1))),
        )
  ]

module _ (l : Shape) (lists : List (List ℕ)) (rows : List RegionSet) (old : AreSets l lists rows) where
  -- a card joined the lists of some regions, and has another row
  pub sets_joined : (card : ℕ) (regions : List ℕ) (new : List (List ℕ)) (row : RegionSet) → card < card_count l → Joins card regions lists new → IsRowOf new card row → AreSets l new (slice_set rows card row)
  sets_joined card regions new row within joins is = record {
    of_heap = joins_lists card regions lists new joins l within old.of_heap;
    count = length-set rows card row ∙ old.count;
    each = λ c below r. elim (cases_eq c card) [
      | inl e ↦
          let at = row_at-set_same rows card row c (omega (arith, old.count)) e in (
            λ h. subst (Contains (list_at new r)) (sym e) ((is r).0 (subst (λ w. HasRegion w r) at h)),
            λ h. subst (λ w. HasRegion w r) (sym at) ((is r).1 (subst (Contains (list_at new r)) e h)),
          )
      | inr ne ↦
          let at = row_at-set_other rows card row c ne in (
            λ h. joins_old card regions lists new joins c r ((old.each c below r).0 (subst (λ w. HasRegion w r) at h)),
            λ h. subst (λ w. HasRegion w r) (sym at) ((old.each c below r).1 (elim (joins_cases card regions lists new joins c r h) [ inl before ↦ before | inr now ↦ absurd (ne now.0) ])),
          )
    ];
  }

  module _ (region : ℕ) (new : List RegionSet) (within : region < length lists) (long : length new ≡ length rows) where
    -- some cards joined the list of a region
    pub sets_many : (cards : List ℕ) → All (λ card. card < card_count l) cards → RowsGain cards region rows new → AreSets l (slice_set lists region (with_cards (list_at lists region) cards)) new
    sets_many cards below gain = record {
      of_heap = replaced_lists l lists region within old.of_heap (with_cards (list_at lists region) cards) (IsDistinct-with_cards (list_at lists region) cards (old.of_heap.distinct region))
          (All-with_cards (λ card. card < card_count l) (list_at lists region) cards (old.of_heap.below region) below);
      count = long ∙ old.count;
      each = λ card lt r. (
        λ h. elim ((gain card r).0 h) [ inl was ↦ many_old lists region cards within (card, r) ((old.each card lt r).0 was) | inr now ↦ many_new lists region cards within (card, r) now.0 now.1 ],
        λ h. (gain card r).1 (elim (many_cases lists region cards within (card, r) h) [ inl before ↦ inl ((old.each card lt r).1 before) | inr now ↦ inr now ]),
      );
    }

    -- the list of a region was emptied
    pub sets_cleared : RowsLose (list_at lists region) region rows new → AreSets l (slice_set lists region []) new
    sets_cleared lose = record {
      of_heap = emptied_lists l lists region within old.of_heap;
      count = long ∙ old.count;
      each = λ card lt r. elim (cases_eq r region) [
        | inl e ↦ (
          λ h. let m = (lose card r).0 h in absurd (m.1 (subst (λ q. Contains (list_at lists q) card) e ((old.each card lt r).0 m.0), e)),
          λ h. in_none 0 card (subst (λ cs. Contains cs card) (list_at-set_same lists region [] r within e) h),
        )
        | inr ne ↦ (
          λ h. subst (λ cs. Contains cs card) (sym (list_at-set_other lists region [] r ne)) ((old.each card lt r).0 ((lose card r).0 h).0),
          λ h. (lose card r).1 ((old.each card lt r).1 (subst (λ cs. Contains cs card) (list_at-set_other lists region [] r ne) h), λ both. ne both.1),
        )
      ];
    }

-- no list has a card, and no row a region
pub sets_empty : (l : Shape) (none : RegionSet) → ((r : ℕ) → HasRegion none r → ⊥) → AreSets l (replicate l.regions []) (replicate (card_count l) none)
sets_empty l none empty = record {
  of_heap = empty_lists l;
  count = length-replicate (card_count l) none;
  each = λ card lt r. (
    λ h. absurd (empty r (subst (λ w. HasRegion w r) (get_or-replicate (card_count l) card none (record { words = [] }) lt) h)),
    λ h. in_none 0 card (subst (λ cs. Contains cs card) (none_listed l.regions r) h),
  );
}
