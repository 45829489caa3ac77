-- What is recorded for several regions.
use Rattle.std.specs.Prelude.{◌+◌, ◌*◌, ◌/◌, ◌%◌, ◌≤◌, ◌==◌}
use Rattle.g1_race.specs.Prelude.{ℕ, Bool, List, Option, Some, None, fold, Contains, slice_index}
use Rattle.g1_race.specs.Prelude.{bit_at, bit_or, Table, IsRecorded, region_of_card, RaceShape}

-- the card lies outside these regions, and is recorded for one of them
pub record IsRecordedInto (table : Table) (regions : List ℕ) (card : ℕ) : Type 0 where
  pub outside : Contains regions (region_of_card table.layout card) → ⊥
  pub region : ℕ
  pub given : Contains regions region
  pub recorded : IsRecorded table card region

-- the least such card at or after `from`
abbrev pub IsNextInto : Table → List ℕ → ℕ → Option ℕ → Type 0
IsNextInto table regions from None =
    (card : ℕ) → from ≤ card → IsRecordedInto table regions card → ⊥
IsNextInto table regions from (Some next) = (from ≤ next) × IsRecordedInto table regions next
    × ((card : ℕ) → from ≤ card → IsRecordedInto table regions card → next ≤ card)

-- the bits of a block of 64 cards that are set in the row of one of these regions
abbrev pub joined_word : RaceShape → List ℕ → ℕ → List ℕ → ℕ
joined_word heap words block regions =
    fold (λ bits region. bit_or bits
    (slice_index words (heap.slots + heap.cards + (region * heap.row + block)))) 0 regions

-- whether the card's bit is set in the row of one of these regions
abbrev pub is_of_any : RaceShape → List ℕ → List ℕ → ℕ → Bool
is_of_any heap words regions card =
    bit_at (joined_word heap words (card / 64) regions) (card % 64) == 1
