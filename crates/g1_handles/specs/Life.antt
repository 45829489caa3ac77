-- The life of a heap whose stores race.
use Rattle.std.specs.Prelude.{◌≡◌, ◌⊎◌, ◌≤◌}
use Rattle.g1_handles.specs.Prelude.{ℕ, List, [], All, Any, Option, Some, None, IsSome, IsSomeAnd}
use Rattle.g1_handles.specs.Prelude.{Box, Vec, length, map, replicate, vec_len, arc_value, Global}
use Rattle.g1_handles.specs.Prelude.{IsShape, opening, beginning, Race, Racer, race_id, race_layout}
use Rattle.g1_handles.specs.Prelude.{racer_log, IsNewRacer, IsNewSweeper, race_shape, Pause}
use Rattle.g1_handles.specs.Prelude.{table_at, start_at, null_of}
use Rattle.g1_layout.specs.Shape as layout
use Rattle.g1_race.specs.Drain.{began}
use Rattle.g1_handles.specs.declared.code.Reason.{Reason}
use Rattle.g1_handles.specs.declared.code.Reason.TheVariants as refusal
use Rattle.g1_handles.specs.declared.party.Role.{Ghosts}
use Rattle.g1_handles.specs.declared.party.Party.{Party}
use Rattle.g1_handles.specs.declared.heap.racing_heap.AtPause.{AtPause}
use Rattle.g1_handles.specs.declared.heap.racing_heap.BeingRead.{BeingRead}
use Rattle.g1_handles.specs.declared.heap.racing_heap.UnderWay.{UnderWay}
use Rattle.g1_handles.specs.declared.heap.racing_heap.RacingHeap.{RacingHeap}
use Rattle.g1_handles.specs.declared.heap.racing_heap.RacingHeap.TheVariants as heap
use Rattle.g1_handles.specs.declared.party.counts.PartyCounts.{PartyCounts}
use Rattle.g1_handles.specs.Own.{RacerParty, SweeperParty}
use Rattle.g1_handles.specs.Racing.{AreClosed, role_in, TakesPart, BelongsTo, BelongsAs, counts_of}
use Rattle.g1_handles.specs.Racing.{AreNew}
use Rattle.g1_handles.specs.Refusals.{SaysNoParty}

-- the handle has a heap at a pause that no reader reads, and it is so of it
abbrev pub OfAtPause : Option RacingHeap → (AtPause → Type 0) → Type 0
OfAtPause None P = ⊥
OfAtPause (Some (heap.Paused a)) P = P a
OfAtPause (Some (heap.Read r)) P = ⊥
OfAtPause (Some (heap.Racing b)) P = ⊥

-- the handle has such a heap, and it is so of the pause
abbrev pub OfPaused : Option RacingHeap → (Pause → Type 0) → Type 0
OfPaused h P = OfAtPause h (λ a. P a.pause)

-- the handle has a heap that readers read, and it is so of it
abbrev pub OfRead : Option RacingHeap → (BeingRead → Type 0) → Type 0
OfRead None P = ⊥
OfRead (Some (heap.Paused a)) P = ⊥
OfRead (Some (heap.Read r)) P = P r
OfRead (Some (heap.Racing b)) P = ⊥

-- the handle has a heap whose parties are out, and it is so of it
abbrev pub OfRacing : Option RacingHeap → (UnderWay → Type 0) → Type 0
OfRacing None P = ⊥
OfRacing (Some (heap.Paused a)) P = ⊥
OfRacing (Some (heap.Read r)) P = ⊥
OfRacing (Some (heap.Racing b)) P = P b

-- nothing but the pause has changed
pub record IsSameBut (old new : AtPause) : Type 0 where
  pub race : new.race ≡ old.race
  pub racers : new.racers ≡ old.racers
  pub sweepers : new.sweepers ≡ old.sweepers
  pub readers : new.readers ≡ old.readers

-- the handle has a heap at a pause, as before, nothing but the pause has changed, and it is so of
-- the pause before and after
abbrev pub IsSameHeap : Option RacingHeap → Option RacingHeap → (Pause → Pause → Type 0) → Type 0
IsSameHeap old new Q =
    OfAtPause old (λ a. OfAtPause new (λ b. IsSameBut a b × Q a.pause b.pause))

-- the heap's handle is closed
abbrev pub SaysNoHeap : Option RacingHeap → Reason → Type 0
SaysNoHeap h r = (r ≡ refusal.NotOpen) × (h ≡ None)

-- the heap's parties are out
abbrev pub HasRacers : Option RacingHeap → Type 0
HasRacers h = OfRacing h (λ b. Unit {0})

-- readers read the heap
abbrev pub HasReaders : Option RacingHeap → Type 0
HasReaders h = OfRead h (λ r. Unit {0})

-- the heap's parties are out, or readers read it
abbrev pub SaysNotPaused : Option RacingHeap → Reason → Type 0
SaysNotPaused h r = (r ≡ refusal.NotPaused) × (HasRacers h ⊎ HasReaders h)

-- the heap is at a pause, and readers may read it
abbrev pub SaysNotRacing : Option RacingHeap → Reason → Type 0
SaysNotRacing h r = (r ≡ refusal.NotRacing) × (OfPaused h (λ p. Unit {0}) ⊎ HasReaders h)

-- a heap may have this many racers and sweepers
pub record AreHeapCounts (racers sweepers : ℕ) : Type 0 where
  pub some_racer : 1 ≤ racers
  pub few_racers : racers ≤ 64
  pub some_sweeper : 1 ≤ sweepers
  pub few_sweepers : sweepers ≤ 64

-- the heap has just begun, with a party for each: its slots are null, its cards are clean, no pair
-- is recorded, and no log has a card
pub record IsNewHeap (l : layout.Shape) (racers sweepers : ℕ) (p : Pause) : Type 0 where
  pub table : table_at p ≡ opening l
  pub words : start_at p ≡ null_of p.shape
  pub logs : p.logs ≡ replicate racers []
  pub parties : p.sweepers ≡ sweepers

-- a heap of these counts, with this many racers and sweepers, in this handle: it is open already,
-- or the heap is not to be had
abbrev pub IsHeapOpenRefused : Option RacingHeap → layout.Shape → ℕ → ℕ → Reason → Type 0
IsHeapOpenRefused h l racers sweepers r =
    ((r ≡ refusal.AlreadyOpen) × IsSome h)
    ⊎ ((h ≡ None) × (((r ≡ refusal.BadHandles) × (AreHeapCounts racers sweepers → ⊥))
    ⊎ ((r ≡ refusal.BadLayout) × (IsShape l → ⊥)) ⊎ (r ≡ refusal.NoMemory)))

-- the end of the heap of this handle
abbrev pub IsCloseRefused : Option RacingHeap → Reason → Type 0
IsCloseRefused h r = SaysNoHeap h r ⊎ SaysNotPaused h r

-- the race of the heap
abbrev pub heap_race : Option RacingHeap → Option Race
heap_race None = None
heap_race (Some (heap.Paused a)) = Some (arc_value a.race)
heap_race (Some (heap.Read r)) = Some (arc_value r.race)
heap_race (Some (heap.Racing b)) = Some (arc_value b.race)

-- the handle is open, and it is so of the heap's race
abbrev pub OfHeap : Option RacingHeap → (Race → Type 0) → Type 0
OfHeap h P = IsSomeAnd (heap_race h) P

-- the heap was opened for this many racers and sweepers
abbrev pub HasParties : Option RacingHeap → ℕ → ℕ → Type 0
HasParties None racers sweepers = ⊥
HasParties (Some (heap.Paused a)) racers sweepers =
    (racers ≡ length a.pause.logs) × (sweepers ≡ a.pause.sweepers)
HasParties (Some (heap.Read r)) racers sweepers =
    (racers ≡ length r.reading.pause.logs) × (sweepers ≡ r.reading.pause.sweepers)
HasParties (Some (heap.Racing b)) racers sweepers =
    (racers ≡ b.racers.count) × (sweepers ≡ b.sweepers.count)

-- what the parties of these boxes have counted, and their numbers
abbrev pub boxed_counts : {P : Type 0} {g : Ghosts P} → Vec (Box (Party P g) Global) Global
    → List PartyCounts
boxed_counts boxes = map (λ m. m.value.counts) boxes.items

-- what the racers and the sweepers of a heap at a pause have counted, in the order of their handles
abbrev pub heap_counts : Option RacingHeap → List PartyCounts × List PartyCounts
heap_counts None = ([], [])
heap_counts (Some (heap.Paused a)) = (boxed_counts a.racers, boxed_counts a.sweepers)
heap_counts (Some (heap.Read r)) = (boxed_counts r.racers, boxed_counts r.sweepers)
heap_counts (Some (heap.Racing b)) = ([], [])

-- what the parties whose boxes are in the rooms of a heap have counted
abbrev pub waiting_counts : UnderWay → List PartyCounts × List PartyCounts
waiting_counts b = (boxed_counts b.racers.boxes, boxed_counts b.sweepers.boxes)

-- the same of the readers of a heap that are in no handle
abbrev pub idle_counts : Option RacingHeap → List PartyCounts
idle_counts None = []
idle_counts (Some (heap.Paused a)) = boxed_counts a.readers.idle
idle_counts (Some (heap.Read r)) = boxed_counts r.readers.idle
idle_counts (Some (heap.Racing b)) = boxed_counts b.readers.idle

-- the parties of the heap have counted nothing, and each of a kind has its index as number
abbrev pub HasNewParties : Option RacingHeap → Type 0
HasNewParties h =
    AreNew (heap_counts h).0 × AreNew (heap_counts h).1 × AreNew (idle_counts h)

-- what the racers and the sweepers of these handles have counted
abbrev pub held_counts : List (Option RacerParty) → List (Option SweeperParty)
    → List PartyCounts × List PartyCounts
held_counts racers sweepers = (map counts_of racers, map counts_of sweepers)

-- the log of a racer, if there is one
abbrev pub log_of : Option Racer → List ℕ
log_of None = []
log_of (Some racer) = racer_log racer

-- the log of the racer behind a party's handle
abbrev pub log_in : Option RacerParty → List ℕ
log_in m = log_of (role_in m)

-- the race goes on from the pause with its table, and all its racers and sweepers are behind these
-- handles: they have stored and swept nothing since, and each racer has the log that it had
pub record GoesOn (p : Pause) (race : Race) (racers : List (Option RacerParty))
    (sweepers : List (Option SweeperParty)) : Type 0 where
  pub began : began (race_layout race) (beginning (start_at p)) ≡ table_at p
  pub racing : All (BelongsAs race (IsNewRacer race.table.table_id (start_at p))) racers
  pub sweeping : All (BelongsAs race (IsNewSweeper race.table.table_id (start_at p))) sweepers
  pub logs : map log_in racers ≡ p.logs

-- as many racers, sweepers or readers of the race, and as many boxes of parties that wait for them
pub record FillRoom {P : Type 0} {g : Ghosts P} (race : Race) (count : ℕ)
    (boxes : Vec (Box (Party P g) Global) Global) (roles : Vec P Global) : Type 0 where
  pub box_count : vec_len boxes ≡ count
  pub role_count : vec_len roles ≡ count
  pub waiting : All (λ m. arc_value m.value.race ≡ race) boxes.items
  pub of : All (λ role. g.of role ≡ race_id race) roles.items

-- the pause has ended, and the parties are still to be handed out
pub record LeavesPause (a : AtPause) (b : UnderWay) : Type 0 where
  pub race : arc_value b.race ≡ arc_value a.race
  pub racer_count : b.racers.count ≡ length a.pause.logs
  pub sweeper_count : b.sweepers.count ≡ a.pause.sweepers
  pub racers : FillRoom (arc_value b.race) b.racers.count b.racers.boxes b.racers.roles
  pub sweepers : FillRoom (arc_value b.race) b.sweepers.count b.sweepers.boxes
      b.sweepers.roles
  pub racing : All (IsNewRacer (arc_value b.race).table.table_id (start_at a.pause))
      b.racers.roles.items
  pub sweeping : All (IsNewSweeper (arc_value b.race).table.table_id (start_at a.pause))
      b.sweepers.roles.items
  pub logs : map racer_log b.racers.roles.items ≡ a.pause.logs
  pub began : began (race_layout (arc_value b.race)) (beginning (start_at a.pause))
      ≡ table_at a.pause
  pub idle : b.readers ≡ a.readers
  pub racers_waited : b.racers.boxes ≡ a.racers
  pub sweepers_waited : b.sweepers.boxes ≡ a.sweepers

-- a resume of the heap of the first handle, with the parties' handles
abbrev pub IsResumeRefused : Option RacingHeap → List (Option RacerParty)
    → List (Option SweeperParty) → Reason → Type 0
IsResumeRefused h racers sweepers r =
    SaysNoHeap h r ⊎ SaysNotPaused h r
    ⊎ ((r ≡ refusal.BadHandles) × OfPaused h (λ p. Unit {0})
    × (HasParties h (length racers) (length sweepers) → ⊥))
    ⊎ ((r ≡ refusal.AlreadyOpen) × (AreClosed racers → AreClosed sweepers → ⊥))

-- these parties are of races with as many parties as that of the heap
abbrev pub MayBelong : Option RacingHeap → List (Option RacerParty)
    → List (Option SweeperParty) → Type 0
MayBelong h racers sweepers = OfRacing h (λ b.
    All (TakesPart (race_shape (arc_value b.race)).parties) racers
    × All (TakesPart (race_shape (arc_value b.race)).parties) sweepers)

-- these parties are of the heap's race
abbrev pub Belong : Option RacingHeap → List (Option RacerParty)
    → List (Option SweeperParty) → Type 0
Belong h racers sweepers = OfRacing h (λ b.
    All (BelongsTo (arc_value b.race)) racers × All (BelongsTo (arc_value b.race)) sweepers)

-- a pause of the heap of the first handle; whether the parties are of its race, each given once, is
-- found out by counts, of which no proof knows, once they are as many as the heap's
abbrev pub IsPauseRefused : Option RacingHeap → List (Option RacerParty)
    → List (Option SweeperParty) → Reason → Type 0
IsPauseRefused h racers sweepers r =
    SaysNoHeap h r ⊎ SaysNotRacing h r
    ⊎ ((r ≡ refusal.BadHandles) × HasRacers h
    × (HasParties h (length racers) (length sweepers) → ⊥))
    ⊎ (HasRacers h × HasParties h (length racers) (length sweepers)
    × (Any (λ m. SaysNoParty m r) racers ⊎ Any (λ m. SaysNoParty m r) sweepers
    ⊎ (r ≡ refusal.OtherRace)))
