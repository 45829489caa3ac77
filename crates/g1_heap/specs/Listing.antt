-- How far a pass over the words of a card has come.
use Rattle.std.specs.Prelude.{◌≡◌, ◌≢◌, ◌⊎◌, ◌↔◌, ◌<◌}
use Rattle.g1_heap.specs.Prelude.{ℕ, List, Option, Some, Contains, length, slice_index, AllPairs}
use Rattle.g1_heap.specs.Prelude.{Shape, region_of, RegionSet, HasRegion}
use Rattle.g1_heap.specs.Stored.{ref_of}

-- a target lies in the region
pub record RefersInto (l : Shape) (target : Option ℕ) (region : ℕ) : Type 0 where
  pub place : ℕ
  pub refers : target ≡ Some place
  pub into : region_of l place ≡ region

-- a word of the row refers into the region
abbrev pub RowRefers : Shape → List ℕ → ℕ → ℕ → Type 0
RowRefers l row k region = RefersInto l (ref_of l (slice_index row k)) region

-- whichever word of the row refers into the second region, an earlier one refers into the first
abbrev pub RowRefersFirst : Shape → List ℕ → ℕ → ℕ → Type 0
RowRefersFirst l row first second =
    (k : ℕ) → RowRefers l row k second → (j : ℕ) × (j < k) × RowRefers l row j first

-- The regions into which the first words of a row refer, but those that were known, in order; and
-- the set of all these.
pub record IsListedUpTo (l : Shape) (row : List ℕ) (known : RegionSet) (end : ℕ) (seen : RegionSet)
    (regions : List ℕ) : Type 0 where
  pub has : (r : ℕ) → HasRegion seen r ↔ (HasRegion known r ⊎ Contains regions r)
  pub new : (r : ℕ) → Contains regions r → ¬ HasRegion known r
  pub only : (r : ℕ) → Contains regions r
      → (k : ℕ) × (k < end) × (k < length row) × RowRefers l row k r
  pub gained : (r k : ℕ) → k < end → RowRefers l row k r → HasRegion seen r
  pub distinct : AllPairs (λ a b. a ≢ b) regions
  pub ordered : AllPairs (RowRefersFirst l row) regions
