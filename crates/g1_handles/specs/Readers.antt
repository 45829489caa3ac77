-- Several threads that read one pause, each by a reader.
use Rattle.std.specs.Prelude.{◌≡◌, ◌⊎◌, ◌<◌, ◌↔◌, ◌++◌, IsPermutation}
use Rattle.g1_handles.specs.Prelude.{ℕ, Bool, List, length, All, Any, Option, IsTrue, arc_value}
use Rattle.g1_handles.specs.Prelude.{card_count, Shape, Table, IsRecorded, Race, race_layout}
use Rattle.g1_handles.specs.Prelude.{race_shape, Pause, table_at, start_at, Known, known}
use Rattle.g1_handles.specs.Prelude.{table_read, IsReaderOf, Result, Some}
use Rattle.g1_handles.specs.declared.code.Reason.{Reason}
use Rattle.g1_handles.specs.declared.code.Reason.TheVariants as refusal
use Rattle.g1_handles.specs.declared.heap.racing_heap.AtPause.{AtPause}
use Rattle.g1_handles.specs.declared.heap.racing_heap.BeingRead.{BeingRead}
use Rattle.g1_handles.specs.declared.heap.racing_heap.RacingHeap.{RacingHeap}
use Rattle.g1_handles.specs.Own.{ReaderParty}
use Rattle.g1_handles.specs.Life.{OfPaused, OfRead, HasRacers, HasReaders, SaysNoHeap}
use Rattle.g1_handles.specs.Life.{SaysNotPaused, FillRoom, OfAtPause, boxed_counts}
use Rattle.g1_handles.specs.Racing.{OfRole, AreClosed, TakesPart, BelongsAs}
use Rattle.g1_handles.specs.Refusals.{SaysNoParty, IsRoleRefused}
use Rattle.g1_handles.specs.Codes.{IsAnswered}

-- a reader with its race
pub record ReaderAt : Type 0 where
  pub race : Race
  pub reader : Known

abbrev pub reading_in : ReaderParty → Known → ReaderAt
reading_in m reader = record { race = arc_value m.race; reader = reader }

-- the handle has a reader, and it is so of it
abbrev pub OfReader : Option ReaderParty → (ReaderAt → Type 0) → Type 0
OfReader m Q = OfRole reading_in m Q

-- how the heap that a reader reads is laid out
abbrev pub reader_layout : ReaderAt → Shape
reader_layout a = race_layout a.race

-- the table that a reader reads
abbrev pub table_of_reader : ReaderAt → Table
table_of_reader a = table_read a.race a.reader

-- a reader at this pause, which reads the table of the pause in this race
pub record IsReaderAt (race : Race) (p : Pause) (r : Known) : Type 0 where
  pub knows : r ≡ known p.table_id (start_at p)
  pub table : table_read race r ≡ table_at p

-- the handles are of readers of this race at this pause
abbrev pub AreReadersAt : Race → Pause → List (Option ReaderParty) → Type 0
AreReadersAt race p readers = All (BelongsAs race (IsReaderAt race p)) readers

-- a heap at a pause, and the same while readers read it
pub record IsLentPause (a : AtPause) (b : BeingRead) : Type 0 where
  pub race : b.race ≡ a.race
  pub pause : b.reading.pause ≡ a.pause
  pub racers : b.racers ≡ a.racers
  pub sweepers : b.sweepers ≡ a.sweepers

-- the one handle has a heap at a pause, and the other the same heap, which readers read
abbrev pub IsLentHeap : Option RacingHeap → Option RacingHeap → Type 0
IsLentHeap old read = OfAtPause old (λ a. OfRead read (IsLentPause a))

-- the heap is read by this many readers, which are not in their handles
pub record AreOut (count : ℕ) (b : BeingRead) : Type 0 where
  pub counted : b.readers.out.count ≡ count
  pub boxes : FillRoom (arc_value b.race) count b.readers.out.boxes b.readers.out.roles
  pub readers : All (IsReaderOf b.reading) b.readers.out.roles.items

-- of the readers of a heap at a pause each is out or in no handle, by its number
abbrev pub AreShared : AtPause → BeingRead → Type 0
AreShared a b = IsPermutation (boxed_counts a.readers.idle)
    (boxed_counts b.readers.out.boxes ++ boxed_counts b.readers.idle)

-- this many readers read the heap
abbrev pub IsReadBy : Option RacingHeap → ℕ → Type 0
IsReadBy h count = OfRead h (λ b. count ≡ b.readers.out.count)

-- the handles are of readers that read the heap
abbrev pub ReadersBelong : Option RacingHeap → List (Option ReaderParty) → Type 0
ReadersBelong h readers = OfRead h (λ b. AreReadersAt (arc_value b.race) b.reading.pause readers)

-- these readers are of races with as many parties as that of the heap
abbrev pub ReadersMayBelong : Option RacingHeap → List (Option ReaderParty) → Type 0
ReadersMayBelong h readers =
    OfRead h (λ b. All (TakesPart (race_shape (arc_value b.race)).parties) readers)

-- the heap of the first handle is to be read by readers in these handles
abbrev pub IsReadRefused : Option RacingHeap → List (Option ReaderParty) → Reason → Type 0
IsReadRefused h readers r =
    SaysNoHeap h r ⊎ SaysNotPaused h r
    ⊎ ((r ≡ refusal.BadHandles) × OfPaused h (λ p. p.shape.parties < length readers))
    ⊎ ((r ≡ refusal.AlreadyOpen) × (AreClosed readers → ⊥))

-- the readers of these handles are to end their reading of the heap; whether they are of its race,
-- each given once, is found out by counts, of which no proof knows, if as many read it
abbrev pub IsReadEndRefused : Option RacingHeap → List (Option ReaderParty) → Reason → Type 0
IsReadEndRefused h readers r =
    SaysNoHeap h r
    ⊎ ((r ≡ refusal.NotPaused) × HasRacers h)
    ⊎ ((r ≡ refusal.BadHandles) × (OfPaused h (λ p. Unit {0}) ⊎ HasReaders h)
    × (IsReadBy h (length readers) → ⊥))
    ⊎ (IsReadBy h (length readers)
    × (Any (λ m. SaysNoParty m r) readers ⊎ (r ≡ refusal.OtherRace)))

-- the answer is whether the card is recorded for the region, both of the heap
pub record ReadsPair (a : ReaderAt) (card region : ℕ) (answer : Bool) : Type 0 where
  pub card_within : card < card_count (reader_layout a)
  pub region_within : region < (reader_layout a).regions
  pub has : IsTrue answer ↔ IsRecorded (table_of_reader a) card region

-- a question to a reader has this answer, or is refused for this
abbrev pub IsAnsweredByReader : {A : Type 0} → ReaderParty → Result A Reason → ReaderParty
    → (ReaderAt → A → Type 0) → (ReaderAt → Reason → Type 0) → Type 0
IsAnsweredByReader old r new Is Why = IsAnswered old r new
    (λ answer. OfReader (Some old) (λ a. Is a answer)) (IsRoleRefused reading_in (Some old) Why)
