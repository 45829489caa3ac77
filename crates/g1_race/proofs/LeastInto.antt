-- The least slot that refers into a region, slot by slot of a card.
use Rattle.std.specs.Prelude.{◌≡◌, ◌+◌, ◌*◌, ◌%◌, ◌<◌, ◌≤◌}
use Rattle.g1_race.specs.{cases_eq, ℕ, true, false, List, div-add-mod', mod-lt, Some, None, eq-eqb, sym, ap, ◌∙◌, subst, inl, inr, ⊎_elim, arith, some, some-injective, get_elem?, cases_lt, true≢false, RaceShape, IsBegun, IsMarked, HasBit, slot_card, crosses, mark_word, region_at, started, IsNext, is_member, Into, IsLeastInto, IsLeastOfCard, card_below}

-- a slot of a region's member

pub into_bit : (k : RaceShape) (words : List ℕ) (region p : ℕ) → IsBegun (started k words) → ((c : ℕ) → c < k.cards → get_elem? words (mark_word k c) ≡ some 1 → ⊥) → Into k words region p → HasBit k words (slot_card k p, region)
into_bit k words region p h clean i = ⊎_elim
    (λ (b : HasBit k words (slot_card k p, region_at k i.0)). subst (λ (r : ℕ). HasBit k words (slot_card k p, r)) i.4 b)
    (λ (m : IsMarked k words p). absurd (clean (slot_card k p) (card_below k p h.shaped i.1) m))
    (h.covered p i.0 i.1 i.2 i.3)

later : (k : RaceShape) (p q : ℕ) → 0 < k.size → slot_card k p < slot_card k q → p < q
later k p q pos lt = grind arith

-- where no card is dirty, each slot that refers into the region is on one of its members
module _ (k : RaceShape) {words read : List ℕ} (same : read ≡ words) (region from : ℕ) (h : IsBegun (started k words)) (clean : (c : ℕ) → c < k.cards → get_elem? words (mark_word k c) ≡ some 1 → ⊥)
    (none : (p : ℕ) → slot_card k p < from → Into k words region p → ⊥) where
  none_until : (end : ℕ) → ((c : ℕ) → from ≤ c → c < end → is_member k read region c ≡ false) → (p : ℕ) → slot_card k p < end → Into k words region p → ⊥
  none_until end no_member p lt x = elim (cases_lt (slot_card k p) from) [
    | inl before ↦ none p before x
    | inr le ↦ true≢false (sym (eq-eqb _ 1 (subst (λ (ws : List ℕ). HasBit k ws (slot_card k p, region)) (sym same) (into_bit k words region p h clean x))) ∙ no_member (slot_card k p) le lt)
  ]

  -- no member is left
  pub none_left : IsNext (is_member k read region) k.cards from None → IsLeastInto k words region None
  none_left next p x = none_until k.cards next p (card_below k p h.shaped x.1) x

  module _ (card : ℕ) (next : IsNext (is_member k read region) k.cards from (Some card)) {seen : List ℕ} (still : seen ≡ read) where
    -- the least on the next one
    pub least_found : (slot : ℕ) → IsLeastOfCard k seen card region (Some slot) → IsLeastInto k words region (Some slot)
    least_found slot there = let here = subst (λ (ws : List ℕ). IsLeastOfCard k ws card region (Some slot)) (still ∙ same) there in (
      here.1,
      λ q i. elim (cases_lt (slot_card k q) card) [
        | inl lt ↦ absurd (none_until card next.3 q lt i)
        | inr le ↦ elim (cases_lt card (slot_card k q)) [
          | inl past ↦ let a : slot < q = later k slot q h.shaped.1 (let e : slot_card k slot ≡ card = here.0 in omega (arith, e, past)) in omega (arith, a)
          | inr high ↦ here.2 q (let e : slot_card k q ≡ card = omega (arith, le, high) in e) i
        ]
      ],
    )

-- a slot by its card
pub by_card : (k : RaceShape) (q card : ℕ) → slot_card k q ≡ card → card * k.size + q % k.size ≡ q
by_card k q card e = ap (λ (c : ℕ). c * k.size + q % k.size) (sym e) ∙ div-add-mod' q k.size

-- slot by slot of a card

pub least_on : (k : RaceShape) (words : List ℕ) (card region i q : ℕ) → ((j : ℕ) → j < i → Into k words region (card * k.size + j) → ⊥) → slot_card k q ≡ card → Into k words region q → card * k.size + i ≤ q
least_on k words card region i q none e x = elim (cases_lt (q % k.size) i) [
  | inl lt ↦ absurd (none (q % k.size) lt (subst (Into k words region) (sym (by_card k q card e)) x))
  | inr le ↦ omega (arith, by_card k q card e, le)
]

pub none_next : (k : RaceShape) (words : List ℕ) (card region i r : ℕ) → get_elem? words (card * k.size + i) ≡ some r → ((crosses k (card * k.size + i) r ≡ true) × (region_at k r ≡ region) → ⊥) → ((j : ℕ) → j < i → Into k words region (card * k.size + j) → ⊥) → (j : ℕ) → j < i + 1 → Into k words region (card * k.size + j) → ⊥
none_next k words card region i r at never none j lt x = elim (cases_eq j i) [
  | inl e ↦
      let y : Into k words region (card * k.size + i) = subst (λ (m : ℕ). Into k words region (card * k.size + m)) e x in
      let same : y.0 ≡ r = some-injective y.0 r (sym y.2 ∙ at) in
      never (subst (λ (n : ℕ). crosses k (card * k.size + i) n ≡ true) same y.3, subst (λ (n : ℕ). region_at k n ≡ region) same y.4)
  | inr ne ↦ none j (omega (arith, lt, ne)) x
]

pub none_on : (k : RaceShape) (words : List ℕ) (card region i p : ℕ) → 0 < k.size → k.size ≤ i → ((j : ℕ) → j < i → Into k words region (card * k.size + j) → ⊥) → slot_card k p ≡ card → Into k words region p → ⊥
none_on k words card region i p pos le none e x = none (p % k.size) (let m : p % k.size < k.size = mod-lt p pos in omega (arith, m, le)) (subst (Into k words region) (sym (by_card k p card e)) x)
