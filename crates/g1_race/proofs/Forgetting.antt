-- Bits of pairs that are cleared, row by row, and the tables that such words make.
use Rattle.std.specs.Prelude.{◌≡◌, ◌⊎◌, ◌+◌, ◌*◌, ◌/◌, ◌%◌, ◌^◌, ◌<◌, ◌≤◌, ◌≢◌, ◌-◌, ◌&&◌}
use Rattle.g1_race.specs.{ℕ, true, false, List, set, get_or, bit_and, w64, length-set, sym, ap, ◌∙◌, subst, inl, inr, arith, eq-eqb, some, get_elem?, bit_at, bit_not, cases_eq, cases_lt, true≢false, get_or-set_same, get_or-set_other, take-set-le, bit_at_clear_same, bit_at_clear_other, set_else, RaceShape, IsBegun, IsPair, HasBit, bit_index, bit_word, slot_card, crosses, flag, front, region_at, started, AreUnset, is_member, reads_as, bit_apart, crossing_pair, bit_below, flag_card, div-add-mod', mod-lt, not, eqb, Bool, mul-div_cancel_left, and_from, and_parts, cases_Bool, eqb-true, not-false, div-mul-add, region_of, Crosses, pair_exact, same_pairs, IsWholeShape, pairs_up_to, shape_of, ended, refs_of, table_of, forgotten, at_take, crosses_reference}
use Rattle.std.specs.FinSet as fin
use Rattle.g1_layout.specs.Shape as layout
use Rattle.g1_race.proofs.AtPause.{begun_front}
use Rattle.g1_race.proofs.FlagWords.{front_at}
use Rattle.g1_race.proofs.Ends.{crosses_apart, recorded_set, region_of_quotient, set_recorded, word_refers}

module _ (k : RaceShape) (words : List ℕ) (x : ℕ × ℕ) where
  abbrev pub without_bit : ℕ
  without_bit = bit_and (get_or words (bit_word k x) 0) (bit_not w64 (1 * 2 ^ bit_index k x % 2 ^ 64))

  abbrev pub without : List ℕ
  without = set words (bit_word k x) without_bit

  module _ (h : IsBegun (started k words)) (pair : IsPair k x) where
    there : (y : ℕ × ℕ) → bit_word k y ≡ bit_word k x → get_or without (bit_word k y) 0 ≡ without_bit
    there y e = ap (λ (i : ℕ). get_or without i 0) e ∙ get_or-set_same words (bit_word k x) without_bit 0 (omega (arith, h.sized, bit_below k x h.shaped pair.0 (omega (arith, pair.1))))

    low : (y : ℕ × ℕ) → bit_index k y < 64
    low y = omega arith

    same_place : (y : ℕ × ℕ) → bit_word k y ≡ bit_word k x → bit_index k y ≡ bit_index k x → HasBit k without y → ⊥
    same_place y e f b = absurd (let z : bit_at (get_or without (bit_word k y) 0) (bit_index k y) ≡ 0 = ap (λ (n : ℕ). bit_at n (bit_index k y)) (there y e) ∙ (ap (bit_at without_bit) f ∙ bit_at_clear_same w64 (get_or words (bit_word k x) 0) (bit_index k x) (low x)) in let o : bit_at (get_or without (bit_word k y) 0) (bit_index k y) ≡ 1 = b in omega (arith, z, o))

    -- another pair's bit is as it was
    bit_cases : (y : ℕ × ℕ) → ((bit_word k y ≡ bit_word k x) × (bit_index k y ≡ bit_index k x)) ⊎ (bit_at (get_or without (bit_word k y) 0) (bit_index k y) ≡ bit_at (get_or words (bit_word k y) 0) (bit_index k y))
    bit_cases y = elim (cases_eq (bit_word k y) (bit_word k x)) [
      | inl e ↦ elim (cases_eq (bit_index k y) (bit_index k x)) [
        | inl f ↦ inl (e, f)
        | inr apart ↦ inr (ap (λ (n : ℕ). bit_at n (bit_index k y)) (there y e) ∙ (bit_at_clear_other w64 (get_or words (bit_word k x) 0) (bit_index k x) (low x) (bit_index k y) (low y) apart ∙ ap (λ (i : ℕ). bit_at (get_or words i 0) (bit_index k y)) (sym e)))
      ]
      | inr apart ↦ inr (ap (λ (n : ℕ). bit_at n (bit_index k y)) (get_or-set_other words (bit_word k x) (bit_word k y) without_bit 0 apart))
    ]

    stays : (y : ℕ × ℕ) → y.0 < k.cards → (x ≡ y → ⊥) → HasBit k words y → HasBit k without y
    stays y py ne b = elim (bit_cases y) [ inl s ↦ absurd (ne (bit_apart k x y h.shaped pair.0 py (sym s.0) (sym s.1))) | inr e ↦ e ∙ b ]

    back : (y : ℕ × ℕ) → HasBit k without y → HasBit k words y
    back y b = elim (bit_cases y) [ inl s ↦ absurd (same_place y s.0 s.1 b) | inr e ↦ sym e ∙ b ]

    pub begun_unset : ((p n : ℕ) → p < k.slots → get_elem? words p ≡ some n → crosses k p n ≡ true → x ≡ (slot_card k p, region_at k n) → ⊥) → IsBegun (started k without)
    begun_unset closed = begun_front k words without h (length-set words (bit_word k x) without_bit) (λ i lt. set_else words (bit_word k x) i _ (λ e. absurd (omega (arith, e, lt))))
        (λ p n lt at cr. stays (slot_card k p, region_at k n) (crossing_pair k p n h.shaped lt (h.bounded p n lt at) cr).0 (closed p n lt at cr)) (λ y py b. inl (back y b))
        (λ c lt m. stays (flag k c) (flag_card k c lt) (λ e. absurd (let r : x.1 ≡ k.regions = ap (λ (y : ℕ × ℕ). y.1) e in let low : x.1 < k.regions = pair.1 in omega (arith, r, low))))

    pub unset_is : AreUnset k words without (λ y. y ≡ x)
    unset_is = record {
      front = take-set-le (k.slots + k.cards) words (bit_word k x) without_bit (let m : ℕ = x.1 * k.row + x.0 / 64 in let goal : k.slots + k.cards ≤ k.slots + k.cards + m = omega arith in goal);
      kept = λ y py never b. stays y py.0 (λ e. never (sym e)) b;
      only = λ y py b. back y b;
      clear = λ y py e b. same_place y (ap (bit_word k) e) (ap (bit_index k) e) b;
    }

-- the word as the call writes it, over the words that it read
pub without_found : (k : RaceShape) (words seen : List ℕ) (x : ℕ × ℕ) (at index found : ℕ) → seen ≡ words → at ≡ bit_word k x → index ≡ bit_index k x → get_elem? words at ≡ some found → set seen at (bit_and found (bit_not w64 (1 * 2 ^ index % 2 ^ 64))) ≡ without k words x
without_found k words seen x at index found same e f here = λ i. set (same i) (e i) (bit_and ((sym (reads_as words at found 0 here) ∙ ap (λ (j : ℕ). get_or words j 0) e) i) (bit_not w64 (1 * 2 ^ f i % 2 ^ 64)))

-- a slot's word among words with the same front
pub slot_back : (k : RaceShape) (old new : List ℕ) (p n : ℕ) → front k new ≡ front k old → p < k.slots → get_elem? new p ≡ some n → get_elem? old p ≡ some n
slot_back k old new p n same lt at = sym (front_at k old new p same (omega (arith, lt))) ∙ at

-- one after another in a row

abbrev pub InRow : ℕ → ℕ → ℕ → ℕ × ℕ → Type 0
InRow region first end x = (x.1 ≡ region) × (first ≤ x.0) × (x.0 < end)

pub row_past : (k : RaceShape) (old mid new : List ℕ) (region first from end : ℕ) → new ≡ mid → from ≤ end → ((c : ℕ) → from ≤ c → c < end → is_member k mid region c ≡ false) → AreUnset k old mid (InRow region first from) → AreUnset k old new (InRow region first end)
row_past k old mid new region first from end same le none h = subst (λ (ws : List ℕ). AreUnset k old ws (InRow region first end)) (sym same) (record {
  front = h.front;
  kept = λ x pair never b. h.kept x pair (λ i. never (i.0, i.1, let a : x.0 < from = i.2 in omega (arith, a, le))) b;
  only = h.only;
  clear = λ x pair i b. elim (cases_lt x.0 from) [
    | inl low ↦ h.clear x pair (i.0, i.1, low) b
    | inr high ↦ absurd (true≢false (sym (eq-eqb _ 1 (subst (λ (r : ℕ). HasBit k mid (x.0, r)) i.0 b)) ∙ none x.0 high i.2))
  ];
})

pub row_on : (k : RaceShape) (old mid new : List ℕ) (region first card : ℕ) → first ≤ card → AreUnset k old mid (InRow region first card) → AreUnset k mid new (λ x. x ≡ (card, region)) → AreUnset k old new (InRow region first (card + 1))
row_on k old mid new region first card low h g = record {
  front = g.front ∙ h.front;
  kept = λ x pair never b. g.kept x pair (λ e. never (ap (λ (y : ℕ × ℕ). y.1) e, let a : x.0 ≡ card = ap (λ (y : ℕ × ℕ). y.0) e in omega (arith, a, low), let a : x.0 ≡ card = ap (λ (y : ℕ × ℕ). y.0) e in omega (arith, a)))
      (h.kept x pair (λ i. never (i.0, i.1, let a : x.0 < card = i.2 in omega (arith, a))) b);
  only = λ x card b. h.only x card (g.only x card b);
  clear = λ x pair i b. elim (cases_lt x.0 card) [
    | inl before ↦ h.clear x pair (i.0, i.1, before) (g.only x pair.0 b)
    | inr at ↦ g.clear x pair (let e : x.0 ≡ card = (let a : x.0 < card + 1 = i.2 in omega (arith, a, at)) in λ j. (e j, i.0 j)) b
  ];
}

-- row after row

abbrev pub InRows : ℕ → ℕ → ℕ → ℕ × ℕ → Type 0
InRows first end rows x = (first ≤ x.0) × (x.0 < end) × (x.1 < rows)

-- the pairs that are not kept are gone, and nothing else has changed
pub retained_is : (k : RaceShape) (l : layout.Shape) (laid : k ≡ shape_of l k.parties) (old new : List ℕ) (keep : ℕ × ℕ → Bool) → IsBegun (started k old) → IsBegun (started k new) → AreUnset k old new (λ x. keep x ≡ false)
    → table_of (ended l k new) ≡ record { layout = l; refs = refs_of (ended l k old); pending = (table_of (ended l k old)).pending; recorded = fin.retain (table_of (ended l k old)).recorded keep }
retained_is k l laid old new keep b h g = λ i. record {
  layout = l;
  refs = refs_of (record { layout = l; words = g.front i; pairs = pairs_up_to k new k.cards });
  pending = (table_of (record { layout = l; words = g.front i; pairs = pairs_up_to k new k.cards })).pending;
  recorded = recorded i;
}
  where
    retained : (x : ℕ × ℕ) → fin.contains (fin.retain (table_of (ended l k old)).recorded keep) x ≡ (fin.contains (table_of (ended l k old)).recorded x && keep x)
    retained x = fin.contains-retain (table_of (ended l k old)).recorded keep x (λ y e. ap keep (sym (pair_exact x y e)))

    recorded : (table_of (ended l k new)).recorded ≡ fin.retain (table_of (ended l k old)).recorded keep
    recorded = same_pairs _ _
        (λ x c. let s = recorded_set k l new laid h x c in
        let was : fin.contains (table_of (ended l k old)).recorded x ≡ true = set_recorded k l old laid b x s.0 (g.only x s.0.0 s.1) in
        let stays : keep x ≡ true = elim (cases_Bool (keep x)) [ inl on ↦ on | inr gone ↦ absurd (g.clear x s.0 gone s.1) ] in
        retained x ∙ and_from _ _ was stays)
        (λ x c. let t = and_parts _ _ (sym (retained x) ∙ c) in
        let s = recorded_set k l old laid b x t.0 in
        set_recorded k l new laid h x s.0 (g.kept x s.0 (λ gone. true≢false (sym t.1 ∙ gone)) s.1))

-- the cards of a region
pub card_in : (n region c : ℕ) → 0 < n → c / n ≡ region → (region * n ≤ c) × (c < region * n + n)
card_in n region c some_card e = let is : region * n + c % n ≡ c = ap (λ (m : ℕ). m * n + c % n) (sym e) ∙ div-add-mod' c n in (omega arith, omega (arith, mod-lt c some_card))

pub in_card : (n region c : ℕ) → region * n ≤ c → c < region * n + n → c / n ≡ region
in_card n region c le lt = grind (arith, div-mul-add)

module _ (k : RaceShape) (l : layout.Shape) (laid : k ≡ shape_of l k.parties) (shaped : IsWholeShape k) where
  cards_is : k.cards ≡ l.regions * l.cards
  cards_is = ap (λ (s : RaceShape). s.cards) laid

  regions_is : k.regions ≡ l.regions
  regions_is = ap (λ (s : RaceShape). s.regions) laid

  some_cards : 0 < l.cards
  some_cards = grind (arith, cards_is, shaped.5)

  module _ (region : ℕ) (lt : region < k.regions) where
    each : k.cards / k.regions ≡ l.cards
    each = (λ i. cards_is i / regions_is i) ∙ mul-div_cancel_left l.cards (omega (arith, regions_is, lt))

    -- no slot of the region refers out of it
    pub closed_words : (words : List ℕ) → ((slot place : ℕ) → Crosses (table_of (ended l k words)) slot place → region_of l slot ≢ region)
        → (p n : ℕ) → p < k.slots → get_elem? words p ≡ some n → crosses k p n ≡ true → region * (k.cards / k.regions) ≤ slot_card k p → slot_card k p < region * (k.cards / k.regions) + k.cards / k.regions → ⊥
    closed_words words closed p n lt at cr le below =
        closed p (n - 1) (record {
          refers = word_refers (ended l k words) p n (omega (arith, lt, ap (λ (s : RaceShape). s.slots) laid)) (at_take words (k.slots + k.cards) p n (omega (arith, lt)) at) (crosses_reference k p n cr);
          across = crosses_apart (shape_of l k.parties) p n (subst (λ (s : RaceShape). crosses s p n ≡ true) laid cr);
        }) (sym (region_of_quotient l p) ∙ (ap (λ (s : RaceShape). p / s.size / l.cards) (sym laid)
        ∙ in_card l.cards region (slot_card k p) (subst (λ (m : ℕ). region * m ≤ slot_card k p) each le) (subst (λ (m : ℕ). slot_card k p < region * m + m) each below)))

    pub forgotten_is : (old new : List ℕ) → IsBegun (started k old) → IsBegun (started k new) → AreUnset k old new (λ x. (region * (k.cards / k.regions) ≤ x.0) × (x.0 < region * (k.cards / k.regions) + k.cards / k.regions))
        → table_of (ended l k new) ≡ forgotten region (table_of (ended l k old))
    forgotten_is old new b h unset = let g = subst (λ (n : ℕ). AreUnset k old new (λ x. (region * n ≤ x.0) × (x.0 < region * n + n))) each unset in
        retained_is k l laid old new (λ x. not (eqb (x.0 / l.cards) region)) b h (record {
          front = g.front;
          kept = λ x pair stays. g.kept x pair (λ gone. stays (ap not (eq-eqb (x.0 / l.cards) region (in_card l.cards region x.0 gone.0 gone.1))));
          only = g.only;
          clear = λ x pair gone. g.clear x pair (card_in l.cards region x.0 some_cards (eqb-true (x.0 / l.cards) region (not-false _ gone)));
        })
