-- What is left of a race at a pause or at its end, as a table, and what a core asks of it.
use Rattle.std.specs.Prelude.{◌≡◌, ◌-◌, ◌^◌, ◌==◌, if◌then◌else◌}
use Rattle.g1_race.specs.Prelude.{nat_lt, ℕ, List, map, take, drop, Bool, Option, Some, None, Ptr}
use Rattle.g1_race.specs.Prelude.{TableId, slot_count, Table, Machine, table_with, adopted_machine}
use Rattle.g1_race.specs.Prelude.{RaceShape, Start, IsBegun, front, pairs_up_to, started}
use Rattle.g1_layout.specs.Shape as layout
use Rattle.g1_core.specs.declared.config.Settings.{Settings}
use Rattle.g1_race.specs.Race.{shape_of}

-- the words of the slots and of the marks, and the recorded pairs
pub record Ended : Type 0 where
  pub layout : layout.Shape
  pub words : List ℕ
  pub pairs : List (ℕ × ℕ)

-- what a slot's word refers to: null and data, from 2^32 on, refer to nothing
abbrev pub target_of_word : ℕ → Option ℕ
target_of_word word =
    if word == 0 then None
    else if nat_lt word (2 ^ 32) then Some (word - 1)
    else None

abbrev pub refs_of : Ended → List (Option ℕ)
refs_of left = map target_of_word (take (slot_count left.layout) left.words)

abbrev pub marks_of : Ended → List Bool
marks_of left = map (λ n. n == 1) (drop (slot_count left.layout) left.words)

-- the table of references, pending cards and recorded pairs that it makes
abbrev pub table_of : Ended → Table
table_of left = table_with left.layout (refs_of left) (marks_of left) left.pairs

-- the core that it makes
abbrev pub core_of : Ended → Settings → Machine
core_of left settings =
    adopted_machine left.layout settings (refs_of left) (marks_of left) left.pairs

-- what a race's words say
abbrev pub ended : layout.Shape → RaceShape → List ℕ → Ended
ended layout heap words =
    record { layout = layout; words = front heap words; pairs = pairs_up_to heap words heap.cards }

-- what the words of a closed race keep
pub record IsEnded (heap : RaceShape) (layout : layout.Shape) (words : List ℕ) : Type 0 where
  pub laid : heap ≡ shape_of layout heap.parties
  pub begun : IsBegun (started heap words)

-- a race at a pause: its layout, also in plain numbers, the words of its table, where they lie and
-- whose they are, the racers' logs, and how many sweepers there are
pub record Pause : Type 0 where
  pub layout : layout.Shape
  pub shape : RaceShape
  pub words : List ℕ
  pub address : Ptr
  pub table_id : TableId
  pub logs : List (List ℕ)
  pub sweepers : ℕ

abbrev pub ended_of : Pause → Ended
ended_of pause = ended pause.layout pause.shape pause.words

-- what a race that goes on from it begins with
abbrev pub start_at : Pause → Start
start_at pause = started pause.shape pause.words

-- its table
abbrev pub table_at : Pause → Table
table_at pause = table_of (ended_of pause)
