-- Which regions a set of regions has.
use Rattle.std.specs.Prelude.{◌≡◌, ◌≢◌, ◌⊎◌, ◌↔◌, ℕ, ◌/◌, ◌%◌, slice_index}
use Rattle.std.specs.Int.{bit_at}
use Rattle.g1_layout.specs.declared.region_set.RegionSet.{RegionSet}

abbrev pub HasRegion : RegionSet → ℕ → Type 0
HasRegion set region = bit_at (slice_index set.words (region / 64)) (region % 64) ≡ 1

-- a set gained a region, or lost it
abbrev pub Gains : RegionSet → ℕ → RegionSet → Type 0
Gains old region new = (r : ℕ) → HasRegion new r ↔ (HasRegion old r ⊎ (r ≡ region))

abbrev pub Loses : RegionSet → ℕ → RegionSet → Type 0
Loses old region new = (r : ℕ) → HasRegion new r ↔ (HasRegion old r × (r ≢ region))
