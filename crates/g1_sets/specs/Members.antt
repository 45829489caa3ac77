-- The sets of all regions by their cards and by their room.
use Rattle.std.specs.Prelude.{◌⊎◌, ◌<◌}
use Rattle.g1_sets.specs.Prelude.{ℕ, List, map, slice_index, All, IndexSet, keys, spare, RegionSet}
use Rattle.g1_sets.specs.Prelude.{HasRegion}

-- by region: the cards in the order of their insertion
abbrev pub lists_of : {S : Type 0} → List (IndexSet ℕ S) → List (List ℕ)
lists_of sets = map keys sets

-- by region: how many cards more it can take with no allocation
abbrev pub rooms_of : {S : Type 0} → List (IndexSet ℕ S) → List ℕ
rooms_of sets = map spare sets

-- Each of the regions is in the card's row, or has room for one card more.
abbrev pub HaveRoom : RegionSet → List ℕ → List ℕ → Type 0
HaveRoom row rooms regions =
    All (λ region. HasRegion row region ⊎ 0 < slice_index rooms region) regions
