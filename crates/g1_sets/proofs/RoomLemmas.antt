-- Room for a card in the sets of some regions.
use Rattle.std.specs.Prelude.{◌≡◌, ◌⊎◌, ◌<◌, ◌≤◌, ◌+◌}
use Rattle.g1_sets.specs.{inl, inr, ℕ, List, length, get_or, take, ap, ◌∙◌, subst, arith, slice_set, slice_index, cases_eq, get_or-set_same, get_or-set_other, All-more, RegionSet, HasRegion, Gains, HaveRoom}

-- one region more that is in the row, or has room
pub room_more : (row : RegionSet) (rooms regions : List ℕ) (i region : ℕ) → i < length regions → region ≡ get_or regions i region → HasRegion row region ⊎ 0 < slice_index rooms region → HaveRoom row rooms (take i regions)
    → HaveRoom row rooms (take (i + 1) regions)
room_more row rooms regions i region lt is here before =
    All-more (λ r. HasRegion row r ⊎ 0 < slice_index rooms r) regions i region lt before (subst (λ r. HasRegion row r ⊎ 0 < slice_index rooms r) is here)

module _ (rooms regions : List ℕ) (n room : ℕ) where
  -- the room of a region grows
  pub room_grown : (row : RegionSet) → n < length rooms → slice_index rooms n ≤ room → HaveRoom row rooms regions → HaveRoom row (slice_set rooms n room) regions
  room_grown row within grows before k d lt = elim (before k d lt) [
    | inl there ↦ inl there
    | inr some ↦ elim (cases_eq (get_or regions k d) n) [
      | inl is ↦ inr (omega (arith, ap (slice_index (slice_set rooms n room)) is ∙ get_or-set_same rooms n room 0 within, ap (slice_index rooms) is))
      | inr ne ↦ inr (omega (arith, get_or-set_other rooms n (get_or regions k d) room 0 ne))
    ]
  ]

  -- a region of the row needs none
  pub room_kept : (old new : RegionSet) → Gains old n new → HaveRoom old rooms regions → HaveRoom new (slice_set rooms n room) regions
  room_kept old new gains before k d lt = elim (cases_eq (get_or regions k d) n) [
    | inl is ↦ inl ((gains (get_or regions k d)).1 (inr is))
    | inr ne ↦ elim (before k d lt) [
      | inl there ↦ inl ((gains (get_or regions k d)).1 (inl there))
      | inr some ↦ inr (omega (arith, get_or-set_other rooms n (get_or regions k d) room 0 ne))
    ]
  ]
