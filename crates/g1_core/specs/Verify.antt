-- What a check of a table finds: where a runtime's memory has something else, and where a reference
-- is on a card that nothing would find again.
use Rattle.std.specs.Prelude.{◌≢◌, ◌+◌, ◌-◌, ◌<◌, ◌≤◌}
use Rattle.g1_core.specs.Prelude.{ℕ, List, Option, Some, None}
use Rattle.g1_core.specs.Prelude.{slice_index_or, card_of, region_of}
use Rattle.g1_core.specs.Table.{Table, Crosses, IsPending, IsRecorded, target_of}

-- The least of `count` slots from the first one on of which it is so, or that it is so of none.
abbrev pub IsFirst : (ℕ → Type 0) → ℕ → ℕ → Option ℕ → Type 0
IsFirst Q first count None = (slot : ℕ) → first ≤ slot → slot < first + count → Q slot → ⊥
IsFirst Q first count (Some found) = (first ≤ found) × (found < first + count) × Q found
    × ((slot : ℕ) → first ≤ slot → slot < found → Q slot → ⊥)

-- how many slots are read for it
abbrev pub looked_for : ℕ → ℕ → Option ℕ → ℕ
looked_for first count None = count
looked_for first count (Some found) = found + 1 - first

-- The slot refers to something else than memory does, which refers to these places from the first
-- slot on.
abbrev pub Differs : Table → ℕ → List (Option ℕ) → ℕ → Type 0
Differs t first memory slot = target_of t slot ≢ slice_index_or memory (slot - first) None

-- The slot refers into another region, and its card is neither pending nor recorded for it.
pub record IsMissing (t : Table) (slot : ℕ) : Type 0 where
  pub place : ℕ
  pub crosses : Crosses t slot place
  pub clean : IsPending t (card_of t.layout slot) → ⊥
  pub unrecorded : IsRecorded t (card_of t.layout slot) (region_of t.layout place) → ⊥
