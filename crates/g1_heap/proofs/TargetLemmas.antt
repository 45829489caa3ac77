-- The regions into which a card holds, as a pass over its words lists them.
use Rattle.std.specs.Prelude.{◌≡◌, ◌<◌, ◌≤◌, ◌+◌, ◌-◌, ◌*◌, ◌/◌, ◌↔◌}
use Rattle.g1_heap.specs.{inl, inr, ℕ, List, length, get_or, map, Option, None, sym, ap, ◌∙◌, arith, Contains, get_or_default, Shape, IsShape, region_of_card, RegionSet, HasRegion, Gains, IsInRow, card_of-row, row_of_card, HoldsIn, ref_of, RowRefers, RowRefersFirst, IsListedUpTo, AreTargets, AreNewTargets, RefersFirst}
use Rattle.std.proofs.lemmas.Bool.Decides.{Decides-eqb}
use Rattle.std.proofs.lemmas.Map.Made.{IsDistinct-from_AllPairs}
use Rattle.g1_heap.proofs.RowLemmas.{row_of, row_length, row_at}

-- the slots of a card
module _ (l : Shape) (words : List ℕ) (card own first n : ℕ) (home : own ≡ region_of_card l card) (starts : first ≡ card * l.slots) (many : n ≡ l.slots) (shape : IsShape l) (room : first + n ≤ length words) where
  abbrev row : List ℕ
  row = row_of words first n

  -- a word of the row refers into another region just where the card holds into it
  abbrev holds_from_row : (region k : ℕ) → k < n → (own ≡ region → ⊥) → RowRefers l row k region → HoldsIn l (map (ref_of l) words) card region
  holds_from_row region k lt apart m =
      let few : k < l.slots = omega arith in
      record {
        slot = first + k;
        place = m.place;
        on_card = ap (λ (f : ℕ). (f + k) / l.slots) starts ∙ card_of-row l card k few;
        refers = sym (row_at words first n room l k lt) ∙ m.refers;
        into = m.into;
        outside = λ e. apart (home ∙ e);
      }

  row_from_holds : (region : ℕ) → (h : HoldsIn l (map (ref_of l) words) card region) → (k : ℕ) × (k < n) × (first + k ≡ h.slot) × RowRefers l row k region
  row_from_holds region h =
      let own_row : IsInRow l card h.slot = row_of_card l card h.slot shape h.on_card in
      let lt : h.slot - first < n = omega arith in
      let at : first + (h.slot - first) ≡ h.slot = omega arith in
      (h.slot - first, lt, at, record { place = h.place; refers = row_at words first n room l (h.slot - first) lt ∙ ap (λ s. get_or (map (ref_of l) words) s None) at ∙ h.refers; into = h.into })

  -- all words are listed, but for the card's own region and those that were known
  module _ (known begun seen : RegionSet) (end : ℕ) (regions : List ℕ) (begins : Gains known own begun) (all : length row ≤ end) (h : IsListedUpTo l row begun end seen regions) where
    apart : (r : ℕ) → Contains regions r → own ≡ r → ⊥
    apart r c e = h.new r c ((begins r).1 (inr (sym e)))

    holds : (r : ℕ) → Contains regions r ↔ (HoldsIn l (map (ref_of l) words) card r × ¬ HasRegion known r)
    holds r = (
      λ c. let k = h.only r c in (holds_from_row r k.0 (omega (arith, k.2, row_length words first n room)) (apart r c) k.3, λ was. h.new r c ((begins r).1 (inl was))),
      λ m.
          let k = row_from_holds r m.0 in
          elim ((h.has r).0 (h.gained r k.0 (omega (arith, k.1, row_length words first n room)) k.3)) [
            | inl was ↦ elim ((begins r).0 was) [
              | inl listed ↦ absurd (m.1 listed)
              | inr e ↦ absurd (m.0.outside (sym home ∙ sym e))
            ]
            | inr c ↦ c
          ],
    )

    order : (a b : ℕ) → Contains regions a → RowRefersFirst l row a b → RefersFirst l (map (ref_of l) words) card a b
    order a b c first_of m =
        let k = row_from_holds b m in
        let j = first_of k.0 k.3 in
        (holds_from_row a j.0 (omega (arith, j.1, k.1)) (apart a c) j.2, omega (arith, j.1, k.2))

    pub listed_all : AreNewTargets l (map (ref_of l) words) card known regions
    listed_all = record {
      holds = holds;
      distinct = IsDistinct-from_AllPairs Decides-eqb regions h.distinct;
      by_first_slot = λ i j d lt below. order (get_or regions i d) (get_or regions j d) (member i d (omega arith)) (h.ordered i j d lt below);
    }
      where
        member : (i d : ℕ) → i < length regions → Contains regions (get_or regions i d)
        member i d inside = (i, inside, get_or_default regions i (get_or regions i d) d inside)

-- where nothing was known these are the targets
pub targets_of_none : (l : Shape) (refs : List (Option ℕ)) (card : ℕ) (known : RegionSet) (regions : List ℕ) → ((r : ℕ) → HasRegion known r → ⊥) → AreNewTargets l refs card known regions → AreTargets l refs card regions
targets_of_none l refs card known regions none h = record {
  holds = λ r. (λ c. ((h.holds r).0 c).0, λ m. (h.holds r).1 (m, none r));
  distinct = h.distinct;
  by_first_slot = h.by_first_slot;
}
