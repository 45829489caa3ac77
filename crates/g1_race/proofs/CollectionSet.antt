-- What is recorded for several regions, and the least slot outside them that refers into one.
use Rattle.std.specs.Prelude.{◌≡◌, ◌⊎◌, ◌+◌, ◌*◌, ◌/◌, ◌%◌, ◌<◌, ◌≤◌, ◌==◌, ◌∷◌, ◌||◌}
use Rattle.g1_race.specs.{cases_eq, ℕ, zero, suc, Bool, true, false, List, [], All, Contains, fold, bit_or, Some, None, refl, sym, ap, ◌∙◌, inl, inr, arith, eq-eqb, eqb-true, ne_eqb, bit_at, bit_at-zero, slice_index, cases_lt, true≢false, region_of_card, IsRecorded, RaceShape, IsBegun, started, shape_of, ended, table_of, IsNext, IsRecordedInto, IsNextInto, is_of_any, joined_word, reads_as, length, take, get_or, some, get_elem?, not, subst, cases_Bool, not-true, div-mul-add, div-add-mod', mod-lt, nat_cmp, CardSet, Table, IsCovered, target_of, card_of, region_of, EntersAny, IsFirstIntoAny, IsFirstOfCard}
use Rattle.std.proofs.lemmas.List.Sums.{fold_more}
use Rattle.std.proofs.lemmas.List.Elements.{All-contains}
use Rattle.std.proofs.lemmas.List.Folds.{list_any_at}
use Rattle.std.proofs.lemmas.Nat.Bits.{bit_at-lt, bit_at_or}
use Rattle.std.specs.List.{list_any}
use Rattle.g1_layout.specs.Shape as layout
use Rattle.std.specs.FinSet as fin
use Rattle.g1_race.proofs.Ends.{recorded_set, set_recorded, region_of_quotient}

module _ (row : ℕ → ℕ) (j : ℕ) where
  -- a bit of the joined words is one of some of them
  bit_of_one : (bits : ℕ) (regions : List ℕ) → bit_at (fold (λ n region. bit_or n (row region)) bits regions) j ≡ 1 → (bit_at bits j ≡ 1) ⊎ ((region : ℕ) × Contains regions region × (bit_at (row region) j ≡ 1))
  bit_of_one bits [] b = inl b
  bit_of_one bits (r ∷ rs) b = elim (bit_of_one (bit_or bits (row r)) rs b) [
    | inl here ↦ elim (cases_eq (bit_at bits j) 1) [
      | inl was ↦ inl was
      | inr ne ↦ inr (r, (0, omega arith, refl), omega (arith, here, ne, bit_at_or bits (row r) j, bit_at-lt bits j))
    ]
    | inr later ↦ inr (later.0, (suc later.1.0, omega (arith, later.1.1), later.1.2), later.2)
  ]

  one_of_bits : (bits : ℕ) (regions : List ℕ) → (bit_at bits j ≡ 1) ⊎ ((region : ℕ) × Contains regions region × (bit_at (row region) j ≡ 1)) → bit_at (fold (λ n region. bit_or n (row region)) bits regions) j ≡ 1
  one_of_bits bits [] (inl b) = b
  one_of_bits bits [] (inr (region, (i, lt, e), b)) = absurd (omega (arith, lt))
  one_of_bits bits (r ∷ rs) (inl b) = one_of_bits (bit_or bits (row r)) rs (inl (omega (arith, b, bit_at_or bits (row r) j, bit_at-lt (row r) j)))
  one_of_bits bits (r ∷ rs) (inr (region, (zero, lt, e), b)) =
      one_of_bits (bit_or bits (row r)) rs (inl (omega (arith, ap (λ (x : ℕ). bit_at (row x) j) e, b, bit_at_or bits (row r) j, bit_at-lt bits j)))
  one_of_bits bits (r ∷ rs) (inr (region, (suc i, lt, e), b)) = one_of_bits (bit_or bits (row r)) rs (inr (region, (i, omega (arith, lt), e), b))

-- the words of one region more are joined
pub joined_on : (k : RaceShape) {words read : List ℕ} (same : read ≡ words) (block : ℕ) (regions : List ℕ) (i at bits found : ℕ) → i < length regions → bits ≡ joined_word k words block (take i regions) → at ≡ k.slots + k.cards + (get_or regions i 0 * k.row + block) → get_elem? read at ≡ some found → bit_or bits found ≡ joined_word k words block (take (i + 1) regions)
joined_on k {words} {read} same block regions i at bits found lt joined is there =
    let word : found ≡ slice_index words (k.slots + k.cards + (get_or regions i 0 * k.row + block)) = sym (reads_as read at found 0 there) ∙ (ap (λ (l : List ℕ). get_or l at 0) same ∙ ap (λ (a : ℕ). get_or words a 0) is) in
    (λ j. bit_or (joined j) (word j)) ∙ sym (fold_more (λ (n region : ℕ). bit_or n (slice_index words (k.slots + k.cards + (region * k.row + block)))) 0 regions i 0 lt)

-- a list that a search finds a region in has it

pub any_contained : (regions : List ℕ) (region : ℕ) → Contains regions region → list_any (λ r. r == region) regions ≡ true
any_contained regions region c = list_any_at (λ r. r == region) regions c.0 region c.1 (eq-eqb _ _ c.2)

pub contained_any : (regions : List ℕ) (region : ℕ) → list_any (λ r. r == region) regions ≡ true → Contains regions region
contained_any [] region e = absurd (true≢false (sym e))
contained_any (r ∷ rs) region e = elim (cases_eq r region) [
  | inl same ↦ (0, omega arith, same)
  | inr ne ↦ let c = contained_any rs region (ap (λ (b : Bool). b || list_any (λ x. x == region) rs) (sym (ne_eqb r region ne)) ∙ e) in (suc c.0, omega (arith, c.1), c.2)
]

-- the cards of a region behind one of them
same_region : (d card c : ℕ) → 0 < d → card ≤ c → c < (card / d + 1) * d → c / d ≡ card / d
same_region d card c pos le lt = grind arith

pub past_region : (d card : ℕ) → 0 < d → card < (card / d + 1) * d
past_region d card pos = grind arith

module _ (k : RaceShape) (l : layout.Shape) (laid : k ≡ shape_of l k.parties) (words : List ℕ) (h : IsBegun (started k words)) (regions : List ℕ) (low : All (λ r. r < k.regions) regions) where
  abbrev Into : ℕ → Type 0
  Into c = IsRecordedInto (table_of (ended l k words)) regions c

  recorded_any : (c r : ℕ) → Contains regions r → IsRecorded (table_of (ended l k words)) c r → (c < k.cards) × (is_of_any k words regions c ≡ true)
  recorded_any c r given e =
      let s = recorded_set k l words laid h (c, r) e in
      (s.0.0, eq-eqb _ 1 (one_of_bits (λ region. slice_index words (k.slots + k.cards + (region * k.row + c / 64))) (c % 64) 0 regions (inr (r, given, s.1))))

  any_recorded : (c : ℕ) → c < k.cards → is_of_any k words regions c ≡ true → (r : ℕ) × Contains regions r × IsRecorded (table_of (ended l k words)) c r
  any_recorded c lt e = elim (bit_of_one (λ region. slice_index words (k.slots + k.cards + (region * k.row + c / 64))) (c % 64) 0 regions (eqb-true _ 1 e)) [
    | inl z ↦ absurd (let o : 0 ≡ 1 = sym (bit_at-zero (c % 64)) ∙ z in omega arith)
    | inr x ↦ (x.0, x.1, set_recorded k l words laid h (c, x.0) (lt, All-contains (λ r. r < k.regions) regions x.0 low x.1) x.2)
  ]

  -- a walk that found no such card before this one
  module _ {read : List ℕ} (same : read ≡ words) (from next : ℕ) (none : (c : ℕ) → from ≤ c → c < next → Into c → ⊥) where
    none_before : (end : ℕ) → ((c : ℕ) → next ≤ c → c < end → is_of_any k read regions c ≡ false) → (c : ℕ) → from ≤ c → c < end → Into c → ⊥
    none_before end free c le lt i = elim (cases_lt c next) [
      | inl before ↦ none c le before i
      | inr high ↦ true≢false (sym (recorded_any c i.region i.given i.recorded).1 ∙ (ap (λ (ws : List ℕ). is_of_any k ws regions c) (sym same) ∙ free c high lt))
    ]

    pub nothing_into : IsNext (is_of_any k read regions) k.cards next None → IsNextInto (table_of (ended l k words)) regions from None
    nothing_into free c le i = none_before k.cards free c le (recorded_any c i.region i.given i.recorded).0 i

    module _ (card : ℕ) (found : IsNext (is_of_any k read regions) k.cards next (Some card)) where
      pub least_into : from ≤ next → list_any (λ r. r == region_of_card l card) regions ≡ false → IsNextInto (table_of (ended l k words)) regions from (Some card)
      least_into past out =
          let r = any_recorded card found.1 (ap (λ (ws : List ℕ). is_of_any k ws regions card) (sym same) ∙ found.2) in (
            omega (arith, past, found.0),
            record { outside = λ c. true≢false (sym (any_contained regions (region_of_card l card) c) ∙ out); region = r.0; given = r.1; recorded = r.2 },
            λ c le i. elim (cases_lt c card) [
              | inl before ↦ absurd (none_before card found.3 c le before i)
              | inr high ↦ high
            ],
          )

      pub none_of_region : 0 < l.cards → list_any (λ r. r == region_of_card l card) regions ≡ true → (c : ℕ) → from ≤ c → c < (region_of_card l card + 1) * l.cards → Into c → ⊥
      none_of_region pos inside c le lt i = elim (cases_lt c card) [
        | inl before ↦ none_before card found.3 c le before i
        | inr high ↦ i.outside (contained_any regions (c / l.cards) (ap (λ (r : ℕ). list_any (λ x. x == r) regions) (same_region l.cards card c pos high lt) ∙ inside))
      ]

-- what a slot refers to, and whether that lies in one of the regions

module _ (t : Table) (regions : List ℕ) (slot place number : ℕ) (refers : Some place ≡ target_of t slot) (is : number ≡ region_of t.layout place) where
  pub not_into : list_any (λ r. r == number) regions ≡ false → EntersAny t regions slot → ⊥
  not_into out e = true≢false (sym (any_contained regions number (subst (Contains regions) (sym is) (subst (λ (p : ℕ). Contains regions (region_of t.layout p)) same e.into))) ∙ out)
    where
      same : e.place ≡ place
      same = let f : Some place ≡ Some e.place = refers ∙ e.refers in cc f

  pub enters_is : list_any (λ r. r == number) regions ≡ true → (of : ℕ) → of ≡ region_of t.layout slot → (found : Bool) → found ≡ list_any (λ r. r == of) regions → (not found ≡ true → EntersAny t regions slot) × (EntersAny t regions slot → not found ≡ true)
  enters_is inside of here found value = (
    λ away. record {
      place = place;
      refers = sym refers;
      into = subst (Contains regions) is (contained_any regions number inside);
      outside = λ c. true≢false (sym (any_contained regions of (subst (Contains regions) (sym here) c)) ∙ (sym value ∙ not-true found away));
    },
    λ e. elim (cases_Bool found) [
      | inl there ↦ absurd (e.outside (subst (Contains regions) here (contained_any regions of (sym value ∙ there))))
      | inr away ↦ ap not away
    ],
  )

-- slot by slot of a card

module _ (t : Table) (regions : List ℕ) (card : ℕ) where
  at_card : (slot : ℕ) → card_of t.layout slot ≡ card → card * t.layout.slots + slot % t.layout.slots ≡ slot
  at_card slot e = ap (λ (c : ℕ). c * t.layout.slots + slot % t.layout.slots) (sym e) ∙ div-add-mod' slot t.layout.slots

  module _ (i : ℕ) (none : (k : ℕ) → k < i → EntersAny t regions (card * t.layout.slots + k) → ⊥) where
    pub first_on : (slot : ℕ) → i < t.layout.slots → slot ≡ card * t.layout.slots + i → EntersAny t regions slot → IsFirstOfCard t regions card (Some slot)
    first_on slot lt is e = (
      ap (λ (s : ℕ). s / t.layout.slots) is ∙ div-mul-add card t.layout.slots i lt,
      e,
      λ other on x. elim (cases_lt (other % t.layout.slots) i) [
        | inl low ↦ absurd (none (other % t.layout.slots) low (subst (EntersAny t regions) (sym (at_card other on)) x))
        | inr le ↦ omega (arith, at_card other on, le, is)
      ],
    )

    pub none_next : (slot : ℕ) → slot ≡ card * t.layout.slots + i → (EntersAny t regions slot → ⊥) → (k : ℕ) → k < i + 1 → EntersAny t regions (card * t.layout.slots + k) → ⊥
    none_next slot is never k lt x = elim (cases_eq k i) [
      | inl e ↦ never (subst (EntersAny t regions) (ap (λ (n : ℕ). card * t.layout.slots + n) e ∙ sym is) x)
      | inr ne ↦ none k (omega (arith, lt, ne)) x
    ]

    pub none_on : 0 < t.layout.slots → t.layout.slots ≤ i → IsFirstOfCard t regions card None
    none_on pos le slot on x = none (slot % t.layout.slots) (let m : slot % t.layout.slots < t.layout.slots = mod-lt slot pos in omega (arith, m, le)) (subst (EntersAny t regions) (sym (at_card slot on)) x)

-- card by card: where no card is pending, the slot's card is recorded for the region

later : (n p q : ℕ) → 0 < n → p / n < q / n → p < q
later n p q pos lt = grind arith

module _ (t : Table) (regions : List ℕ) (cover : IsCovered t) (clean : t.pending ≡ fin.empty) where
  recorded_into : (slot : ℕ) → EntersAny t regions slot → IsRecordedInto t regions (card_of t.layout slot)
  recorded_into slot e = elim (cover slot e.place (record { refers = e.refers; across = λ same. e.outside (subst (Contains regions) (sym same) e.into) })) [
    | inl p ↦ absurd (true≢false (sym p ∙ (ap (λ (s : CardSet). fin.contains s (card_of t.layout slot)) clean ∙ fin.contains-empty nat_cmp (card_of t.layout slot))))
    | inr r ↦ record { outside = subst (λ (q : ℕ). Contains regions q → ⊥) (sym (region_of_quotient t.layout slot)) e.outside; region = region_of t.layout e.place; given = e.into; recorded = r }
  ]

  module _ (from : ℕ) (none : (slot : ℕ) → card_of t.layout slot < from → EntersAny t regions slot → ⊥) where
    pub none_left : IsNextInto t regions from None → IsFirstIntoAny t regions None
    none_left next slot x = elim (cases_lt (card_of t.layout slot) from) [
      | inl before ↦ none slot before x
      | inr le ↦ next (card_of t.layout slot) le (recorded_into slot x)
    ]

    module _ (card : ℕ) (next : IsNextInto t regions from (Some card)) where
      pub none_past : IsFirstOfCard t regions card None → (slot : ℕ) → card_of t.layout slot < card + 1 → EntersAny t regions slot → ⊥
      none_past never slot lt x = elim (cases_lt (card_of t.layout slot) from) [
        | inl before ↦ none slot before x
        | inr le ↦ never slot (let up : card ≤ card_of t.layout slot = next.2 (card_of t.layout slot) le (recorded_into slot x) in let e : card_of t.layout slot ≡ card = omega (arith, up, lt) in e) x
      ]

      pub first_found : (slot : ℕ) → 0 < t.layout.slots → IsFirstOfCard t regions card (Some slot) → IsFirstIntoAny t regions (Some slot)
      first_found slot pos here = (
        here.1,
        λ other x. elim (cases_lt (card_of t.layout other) from) [
          | inl before ↦ absurd (none other before x)
          | inr le ↦ let up : card ≤ card_of t.layout other = next.2 (card_of t.layout other) le (recorded_into other x) in elim (cases_lt card (card_of t.layout other)) [
            | inl past ↦ let a : slot < other = later t.layout.slots slot other pos (let e : card_of t.layout slot ≡ card = here.0 in omega (arith, e, past)) in omega (arith, a)
            | inr high ↦ here.2 other (let e : card_of t.layout other ≡ card = omega (arith, up, high) in e) x
          ]
        ],
      )
