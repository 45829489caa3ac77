-- The first slot of a card that refers into a region.
use Rattle.std.specs.Prelude.{◌≡◌, ◌≤◌, ◌<◌, ◌+◌, ◌-◌}
use Rattle.g1_heap.specs.Prelude.{ℕ, List, Option, Some, None, slice_index_or, Shape, region_of}
use Rattle.g1_heap.specs.Prelude.{slot_at}
use Rattle.g1_heap.specs.Listing.{RefersInto}

-- no slot from one offset of the card up to another refers into the region
abbrev pub HasNoneInto : Shape → List (Option ℕ) → ℕ → ℕ → ℕ → ℕ → Type 0
HasNoneInto l refs card region from end =
    (k : ℕ) → from ≤ k → k < end → RefersInto l (slice_index_or refs (slot_at l card k) None) region
    → ⊥

-- the slot at the offset refers to the place, which lies in the region, and no slot before it from
-- the first offset on does
pub record IsNextInto (l : Shape) (refs : List (Option ℕ)) (card region from offset place : ℕ)
    : Type 0 where
  pub not_before : from ≤ offset
  pub within : offset < l.slots
  pub refers : slice_index_or refs (slot_at l card offset) None ≡ Some place
  pub into : region_of l place ≡ region
  pub first : HasNoneInto l refs card region from offset

-- how many slots are looked at for it
abbrev pub looked_at : Shape → ℕ → Option (ℕ × ℕ) → ℕ
looked_at l from None = l.slots - from
looked_at l from (Some found) = found.0 + 1 - from
