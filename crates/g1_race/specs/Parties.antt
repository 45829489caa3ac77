-- What the race's own types say.
use Rattle.std.specs.Prelude.{◌≡◌, ◌≢◌, ◌+◌, ◌*◌, ◌≤◌, ◌^◌, ◌↔◌, ◌∷◌, ◌++◌, if◌then◌else◌}
use Rattle.g1_race.specs.Prelude.{ℕ, Vec, vec_len, All, replicate, List, [], Bool, true, false}
use Rattle.g1_race.specs.Prelude.{Option, Some, None, Global, Ptr, TableId, Seat, slot_count}
use Rattle.g1_race.specs.Prelude.{card_count, RaceShape, View, Kind, SameRegion, Null, AlreadyDirty}
use Rattle.g1_race.specs.Prelude.{Logged, Table, Start, Begun, StoreHistory, AtRest, slot_card}
use Rattle.g1_race.specs.Prelude.{crosses, started, beginning, start_of, pair_at, blank, Sits}
use Rattle.g1_race.specs.Prelude.{IsFound, Contains, length, IsCovered, IsPairOf, as_number}
use Rattle.g1_race.specs.Prelude.{HasMade, Clean}
use Rattle.g1_layout.specs.Shape as layout
use Rattle.g1_race.specs.declared.race.Race.{Race}
use Rattle.g1_race.specs.declared.race.Racer.{Racer}
use Rattle.g1_race.specs.declared.race.Sweeper.{Sweeper}
use Rattle.g1_race.specs.Drain.{began}
use Rattle.g1_race.specs.Over.{Ended, Pause, ended_of, table_of, target_of_word}
use Rattle.g1_race.specs.Race.{IsKnown, IsOver, shape_of, stored_view, word_of, words_began}
use Rattle.g1_race.specs.Resumed.{HasWordsOf}

abbrev pub racer_view : Racer → View
racer_view racer = racer.seat.me.0

abbrev pub sweeper_view : Sweeper → View
sweeper_view sweeper = sweeper.seat.me.0

-- what the race began with, as a party knows it
abbrev pub racer_start : Racer → Start
racer_start racer = start_of racer.seat.me.0

abbrev pub sweeper_start : Sweeper → Start
sweeper_start sweeper = start_of sweeper.seat.me.0

-- a party at rest
pub record Idle (heap : RaceShape) (view : View) : Type 0 where
  pub shape : view.shape ≡ heap
  pub weight : view.weight ≡ 1
  pub rest : AtRest view
  pub going : view.frozen ≡ false

-- what a race over nulls begins with: all null, all clean, and no pair recorded
abbrev pub null_begun : layout.Shape → ℕ → Begun
null_begun layout parties =
    record {
      shape = shape_of layout parties;
      words = replicate (slot_count layout + card_count layout) 0;
      pairs = [];
    }

-- which race it is, and its shape
abbrev pub race_id : Race → TableId × RaceShape
race_id race = (race.table.table_id, race.shape)

abbrev pub race_shape : Race → RaceShape
race_shape race = race.shape

-- where its words lie
abbrev pub race_words : Race → Ptr
race_words race = race.table.address

-- a pause of it: its words, the racers' logs, and how many sweepers there are
abbrev pub at_pause_of : Race → List ℕ → List (List ℕ) → ℕ → Pause
at_pause_of race words logs sweepers =
    record {
      layout = race.layout;
      shape = race.shape;
      words = words;
      address = race.table.address;
      table_id = race.table.table_id;
      logs = logs;
      sweepers = sweepers;
    }

-- what it began with, as these racers and sweepers know it
abbrev pub race_begun : Race → List View → List View → Begun
race_begun race racers sweepers =
    beginning (started race.shape (words_began (sweepers ++ racers)))

-- the layout of its heap
abbrev pub race_layout : Race → layout.Shape
race_layout race = race.layout

-- what a race leaves, whose racers and sweepers know this
pub record HasEnded (race : Race) (racers sweepers : List View) (left : Ended) : Type 0 where
  pub layout : left.layout ≡ race_layout race
  pub within : (x : ℕ × ℕ) → Contains left.pairs x → IsPairOf (race_layout race) x
  pub cover : IsCovered (table_of left)
  pub pairs : (x : ℕ × ℕ) → Contains left.pairs x
      ↔ IsKnown (race_begun race racers sweepers) sweepers x
  pub over : IsOver (race_begun race racers sweepers) left.words racers sweepers

-- a pause of it, whose racers have these logs
pub record IsPauseOf (race : Race) (racers sweepers : List View) (logged : List (List ℕ))
    (pause : Pause) : Type 0 where
  pub left : HasEnded race racers sweepers (ended_of pause)
  pub layout : pause.layout ≡ race_layout race
  pub shape : pause.shape ≡ race_shape race
  pub address : pause.address ≡ race_words race
  pub table_id : pause.table_id ≡ (race_id race).0
  pub logs : pause.logs ≡ logged
  pub count : pause.sweepers ≡ length sweepers

-- the race that a racer or a sweeper is of
abbrev pub racer_race : Racer → TableId × RaceShape
racer_race racer = (racer.seat.table_id, racer.seat.me.0.shape)

abbrev pub sweeper_race : Sweeper → TableId × RaceShape
sweeper_race sweeper = (sweeper.seat.table_id, sweeper.seat.me.0.shape)

abbrev pub RacerOf : TableId → RaceShape → Racer → Type 0
RacerOf table_id heap racer = racer_race racer ≡ (table_id, heap)

-- the number of the first history
abbrev pub first_number : List StoreHistory → ℕ
first_number [] = 0
first_number (history ∷ histories) = history.0

abbrev pub racer_number : Racer → ℕ
racer_number racer = first_number (racer_view racer).histories

abbrev pub racer_log : Racer → List ℕ
racer_log racer = racer.log.items

-- a racer that has stored nothing since the race began so
abbrev pub IsNewRacer : TableId → Start → Racer → Type 0
IsNewRacer table_id begin racer = RacerOf table_id begin.shape racer
    × (racer_view racer ≡ blank begin 1 ((racer_number racer, []) ∷ []))

-- a racer that has stored nothing, with an empty log
abbrev pub IsFreshRacer : TableId → RaceShape → Racer → Type 0
IsFreshRacer table_id heap racer = RacerOf table_id heap racer
    × (racer_view racer ≡ blank (racer_start racer) 1 ((racer_number racer, []) ∷ []))
    × (racer_log racer ≡ [])

abbrev pub SweeperOf : TableId → RaceShape → Sweeper → Type 0
SweeperOf table_id heap sweeper = sweeper_race sweeper ≡ (table_id, heap)

-- a sweeper that has swept nothing since the race began so
abbrev pub IsNewSweeper : TableId → Start → Sweeper → Type 0
IsNewSweeper table_id begin sweeper =
    SweeperOf table_id begin.shape sweeper × (sweeper_view sweeper ≡ blank begin 1 [])

-- a sweeper that has swept nothing
abbrev pub IsFreshSweeper : TableId → RaceShape → Sweeper → Type 0
IsFreshSweeper table_id heap sweeper =
    SweeperOf table_id heap sweeper × (sweeper_view sweeper ≡ blank (sweeper_start sweeper) 1 [])

-- as many racers of the race, which have stored nothing and whose logs are empty
abbrev pub AreFreshRacers : Race → ℕ → Vec Racer Global → Type 0
AreFreshRacers race count racers = (vec_len racers ≡ count)
    × All (IsFreshRacer race.table.table_id race.shape) racers.items

-- as many sweepers of the race, which have swept nothing
abbrev pub AreFreshSweepers : Race → ℕ → Vec Sweeper Global → Type 0
AreFreshSweepers race count sweepers = (vec_len sweepers ≡ count)
    × All (IsFreshSweeper race.table.table_id race.shape) sweepers.items

-- all these parties know that the race began so
abbrev pub HaveBegun : Start → Vec Racer Global → Vec Sweeper Global → Type 0
HaveBegun begin racers sweepers = All (λ r. racer_start r ≡ begin) racers.items
    × All (λ w. sweeper_start w ≡ begin) sweepers.items

-- all these parties know that the race began with this table, and with no data
abbrev pub HaveBegunWith : Table → Race → Vec Racer Global → Vec Sweeper Global → Type 0
HaveBegunWith table race racers sweepers = (begin : Start) × HaveBegun begin racers sweepers
    × (began (race_layout race) (beginning begin) ≡ table) × HasWordsOf table begin.words

-- the seat is one of this race, and a racer's at rest
pub record Races (table_id : TableId) (heap : RaceShape) (seat : Seat (Unit {0}) View)
    : Type 0 where
  pub table : seat.table_id ≡ table_id
  pub idle : Idle heap seat.me.0
  pub history : (h : StoreHistory) × (seat.me.0.histories ≡ h ∷ [])
  pub cleanings : seat.me.0.cleanings ≡ []
  pub pairs : seat.me.0.pairs ≡ []

-- the seat is one of this race, and a sweeper's at rest
pub record IsSweeperSeat (table_id : TableId) (heap : RaceShape)
    (seat : Seat (Unit {0}) View) : Type 0 where
  pub table : seat.table_id ≡ table_id
  pub idle : Idle heap seat.me.0
  pub history : seat.me.0.histories ≡ []
  pub overwritten : seat.me.0.overwritten ≡ []
  pub claims : seat.me.0.claims ≡ []

abbrev pub is_logged : Kind → Bool
is_logged Logged = true
is_logged AlreadyDirty = false
is_logged SameRegion = false
is_logged Null = false

-- the kind of a store of this target to the slot
abbrev pub IsKind : RaceShape → ℕ → Option ℕ → Kind → Type 0
IsKind heap slot target Null = target ≡ None
IsKind heap slot target SameRegion = (target ≢ None) × (crosses heap slot (word_of target) ≡ false)
IsKind heap slot target AlreadyDirty = crosses heap slot (word_of target) ≡ true
IsKind heap slot target Logged = crosses heap slot (word_of target) ≡ true

-- the racer has stored the target to the slot and overwrote the old word, and this was the kind of
-- the store
pub record HasStored (heap : RaceShape) (slot : ℕ) (target : Option ℕ) (old : ℕ) (kind : Kind)
    (before after : Racer) : Type 0 where
  pub agrees : IsKind heap slot target kind
  pub view : racer_view after
      ≡ stored_view heap (racer_view before) slot (word_of target) old (is_logged kind)
  pub log : racer_log after ≡ (if is_logged kind then racer_log before ++ slot_card heap slot ∷ []
      else racer_log before)

-- the racer has stored nothing
pub record HasNotStored (old new : Racer) : Type 0 where
  pub view : racer_view new ≡ racer_view old
  pub log : racer_log new ≡ racer_log old

-- the racer's store of the word to the slot overwrote one that refers to this, which the slot had
-- at some moment of the race, with the racer's view as it was before
pub record HasOverwritten (heap : RaceShape) (slot word : ℕ) (target : Option ℕ) (claims : Bool)
    (before after : View) : Type 0 where
  pub old : ℕ
  pub found : IsFound before slot old
  pub refers : target_of_word old ≡ target
  pub view : after ≡ stored_view heap before slot word old claims

-- at some moment of the race, with the racer's view so, the slot referred to this, and its word was
-- not that of what was expected: where nothing was expected, and the slot referred to nothing, it
-- had data
pub record HasDiffered (view : View) (slot : ℕ) (expected target : Option ℕ) : Type 0 where
  pub word : ℕ
  pub found : IsFound view slot word
  pub refers : target_of_word word ≡ target
  pub other : word ≢ word_of expected
  pub unless : target ≡ expected → 2 ^ 32 ≤ word

-- the seat's racer owes the card
pub record Owing (table_id : TableId) (heap : RaceShape) (card : ℕ)
    (seat : Seat (Unit {0}) View) : Type 0 where
  pub table : seat.table_id ≡ table_id
  pub sits : Sits heap seat.me.0
  pub owed : seat.me.0.owed ≡ Some card

-- at some moment of the race, a sweeper that knows this made the card clean, which was dirty or not
abbrev pub HasCleaned : View → ℕ → Bool → Type 0
HasCleaned view card was_dirty = HasMade view (Clean card (as_number was_dirty))

-- the seat's sweeper has cleaned the card and read its first slots, as many as this
pub record IsSweepingCard (table_id : TableId) (heap : RaceShape) (before : View)
    (card : ℕ) (count : ℕ) (seat : Seat (Unit {0}) View) : Type 0 where
  pub table : seat.table_id ≡ table_id
  pub shape : seat.me.0.shape ≡ heap
  pub weight : seat.me.0.weight ≡ 1
  pub going : seat.me.0.frozen ≡ false
  pub owed : seat.me.0.owed ≡ None
  pub flagged : seat.me.0.flagged ≡ []
  pub next : seat.me.0.next ≡ card * heap.size + count
  pub end : seat.me.0.end ≡ card * heap.size + heap.size
  pub held : seat.me.0.held ≡ []
  pub history : seat.me.0.histories ≡ []
  pub overwritten : seat.me.0.overwritten ≡ []
  pub claims : seat.me.0.claims ≡ []
  pub swept : seat.me.0.swept ≡ card ∷ before.swept
  pub start : start_of seat.me.0 ≡ start_of before

-- the seat's sweeper has just found the word at the slot
pub record Recording (table_id : TableId) (heap : RaceShape) (slot word : ℕ)
    (seat : Seat (Unit {0}) View) : Type 0 where
  pub table : seat.table_id ≡ table_id
  pub shape : seat.me.0.shape ≡ heap
  pub weight : seat.me.0.weight ≡ 1
  pub going : seat.me.0.frozen ≡ false
  pub held : seat.me.0.held ≡ pair_at heap slot word

-- the seat's sweeper holds the pair
pub record Holding (table_id : TableId) (heap : RaceShape) (pair : ℕ × ℕ)
    (seat : Seat (Unit {0}) View) : Type 0 where
  pub table : seat.table_id ≡ table_id
  pub shape : seat.me.0.shape ≡ heap
  pub weight : seat.me.0.weight ≡ 1
  pub going : seat.me.0.frozen ≡ false
  pub held : seat.me.0.held ≡ pair ∷ []
