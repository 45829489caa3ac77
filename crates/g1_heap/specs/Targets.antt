-- The regions into which a card holds, in order.
use Rattle.std.specs.Prelude.{◌<◌, ◌↔◌}
use Rattle.g1_heap.specs.Prelude.{ℕ, List, Option, Contains, nat_eq, AllPairs, IsDistinct, Shape}
use Rattle.g1_heap.specs.Prelude.{RegionSet, HasRegion}
use Rattle.g1_heap.specs.Cells.{HoldsIn}

-- whichever slot of the card refers into the second region, an earlier one refers into the first
abbrev pub RefersFirst : Shape → List (Option ℕ) → ℕ → ℕ → ℕ → Type 0
RefersFirst l refs card first second =
    (h : HoldsIn l refs card second) → (g : HoldsIn l refs card first) × (g.slot < h.slot)

-- just the regions that pass, each once, by the first slot of the card that refers into each
pub record AreListed (l : Shape) (refs : List (Option ℕ)) (card : ℕ) (Passes : ℕ
    → Type 0) (regions : List ℕ) : Type 0 where
  pub holds : (region : ℕ) → Contains regions region ↔ Passes region
  pub distinct : IsDistinct nat_eq regions
  pub by_first_slot : AllPairs (RefersFirst l refs card) regions

-- just the regions that the card holds into
abbrev pub AreTargets : Shape → List (Option ℕ) → ℕ → List ℕ → Type 0
AreTargets l refs card regions = AreListed l refs card (HoldsIn l refs card) regions

-- and those of them that a set has not
abbrev pub AreNewTargets : Shape → List (Option ℕ) → ℕ → RegionSet → List ℕ → Type 0
AreNewTargets l refs card known regions =
    AreListed l refs card (λ region. HoldsIn l refs card region × ¬ HasRegion known region) regions
