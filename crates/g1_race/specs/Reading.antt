-- A race at a pause that several threads read.
use Rattle.std.specs.Prelude.{◌≡◌, ◌≤◌}
use Rattle.g1_race.specs.Prelude.{ℕ, Option, Some, None, TableId, Table, IsPending, IsRecorded}
use Rattle.g1_race.specs.Prelude.{RaceShape, Start}
use Rattle.g1_race.specs.declared.race.Race.{Race}
use Rattle.g1_race.specs.Parties.{race_id}
use Rattle.g1_race.specs.Over.{Pause, ended, start_at, table_of}

-- the pause, which table it is at, and how many readers there are
pub record Readable : Type 0 where
  pub pause : Pause
  pub table_id : TableId
  pub readers : ℕ

-- what a reader knows: which table it is at, and all its words. It has some of the weight
pub record Known : Type 0 where
  pub table_id : TableId
  pub start : Start
  pub weight : ℕ

-- a reader that a pause hands out has the weight of one party
abbrev pub known : TableId → Start → Known
known table_id begin = record { table_id = table_id; start = begin; weight = 1 }

-- the reader is of this pause
abbrev pub IsReaderOf : Readable → Known → Type 0
IsReaderOf reading reader = reader ≡ known reading.table_id (start_at reading.pause)

-- the race that a reader is of
abbrev pub reader_race : Known → TableId × RaceShape
reader_race reader = (reader.table_id, reader.start.shape)

-- the table of the race, as a reader knows it
abbrev pub table_read : Race → Known → Table
table_read race reader = table_of (ended race.layout race.shape reader.start.words)

-- the reader is the pause's own: it has all the weight, and may write
pub record IsPauseReader (race : Race) (reader : Known) : Type 0 where
  pub here : reader_race reader ≡ race_id race
  pub weight : reader.weight ≡ race.shape.parties

-- the least pending card at or after `from`
abbrev pub IsNextPending : Table → ℕ → Option ℕ → Type 0
IsNextPending table from None = (card : ℕ) → from ≤ card → IsPending table card → ⊥
IsNextPending table from (Some next) = (from ≤ next) × IsPending table next
    × ((card : ℕ) → from ≤ card → IsPending table card → next ≤ card)

-- the least card at or after `from` that is recorded for the region
abbrev pub IsNextMember : Table → ℕ → ℕ → Option ℕ → Type 0
IsNextMember table region from None =
    (card : ℕ) → from ≤ card → IsRecorded table card region → ⊥
IsNextMember table region from (Some next) = (from ≤ next) × IsRecorded table next region
    × ((card : ℕ) → from ≤ card → IsRecorded table card region → next ≤ card)
