-- By card: the regions whose lists have it.
use Rattle.std.specs.Prelude.{◌≡◌, ◌↔◌, ◌⊎◌, ◌<◌}
use Rattle.g1_sets.specs.Prelude.{ℕ, List, [], Contains, length, slice_index_or, Shape, card_count}
use Rattle.g1_sets.specs.Prelude.{RegionSet, HasRegion}
use Rattle.g1_sets.specs.Pairs.{list_at, AreLists}

-- the row of a card
abbrev pub row_at : List RegionSet → ℕ → RegionSet
row_at rows card = slice_index_or rows card (record { words = [] })

-- the row has just the regions whose lists have the card
abbrev pub IsRowOf : List (List ℕ) → ℕ → RegionSet → Type 0
IsRowOf lists card row = (region : ℕ) → HasRegion row region ↔ Contains (list_at lists region) card

-- What the sets of a heap keep: the lists are those of a heap, and each card has its row.
pub record AreSets (l : Shape) (lists : List (List ℕ)) (rows : List RegionSet) : Type 0 where
  pub of_heap : AreLists l lists
  pub count : length rows ≡ card_count l
  pub each : (card : ℕ) → card < card_count l → IsRowOf lists card (row_at rows card)

-- the rows of some cards gained a region
abbrev pub RowsGain : List ℕ → ℕ → List RegionSet → List RegionSet → Type 0
RowsGain cards region old new =
    (card r : ℕ) → HasRegion (row_at new card) r
    ↔ (HasRegion (row_at old card) r ⊎ (Contains cards card × (r ≡ region)))

-- the rows of some cards lost a region
abbrev pub RowsLose : List ℕ → ℕ → List RegionSet → List RegionSet → Type 0
RowsLose cards region old new =
    (card r : ℕ) → HasRegion (row_at new card) r
    ↔ (HasRegion (row_at old card) r × ¬ (Contains cards card × (r ≡ region)))
