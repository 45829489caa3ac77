-- What the calls of an evacuation pause do to the plain table.
use Rattle.std.specs.Prelude.{◌≡◌, ◌⊎◌, ◌+◌, ◌*◌, ◌/◌, ◌<◌, ◌==◌, if◌then◌else◌, ◌-◌, ◌&&◌}
use Rattle.g1_race.specs.Prelude.{ℕ, not, zero, suc, List, [], None, Contains, length}
use Rattle.g1_race.specs.Prelude.{replicate, slice_index, nat_le, nat_lt, some, get_elem?}
use Rattle.g1_race.specs.Prelude.{IsStrictlyIncreasing, region_of_card, Table, Holds}
use Rattle.g1_race.specs.Prelude.{IsRecorded, IsCovered, AreRefinable, refined, stored, RaceShape}
use Rattle.g1_race.specs.Prelude.{IsFlagged}
use Rattle.std.specs.FinSet as set
use Rattle.g1_core.specs.declared.reply.Drained.{Drained}
use Rattle.g1_core.specs.declared.reply.Drained.TheVariants.{Cards, Short}
use Rattle.g1_race.specs.Over.{Pause}
use Rattle.g1_race.specs.Refining.{AreUnflagged}

-- all of a race at a pause but its words is as it was, and the racers' logs, of as many racers as
-- before, are these
pub record IsRaceWith (logged : List (List ℕ)) (old new : Pause) : Type 0 where
  pub layout : new.layout ≡ old.layout
  pub shape : new.shape ≡ old.shape
  pub address : new.address ≡ old.address
  pub table_id : new.table_id ≡ old.table_id
  pub racers : length new.logs ≡ length old.logs
  pub sweepers : new.sweepers ≡ old.sweepers
  pub logs : new.logs ≡ logged

abbrev pub IsSameRace : Pause → Pause → Type 0
IsSameRace old new = IsRaceWith old.logs old new

-- the same once all is refined: each racer's log is empty, and no flag is set
pub record IsRefinedRace (old new : Pause) : Type 0 where
  pub kept : IsRaceWith (replicate (length old.logs) []) old new
  pub flags : AreUnflagged new.shape new.words

-- each slot's word becomes this
abbrev pub WordsBecome : (ℕ → ℕ → ℕ) → RaceShape → List ℕ → List ℕ → Type 0
WordsBecome change heap old new = (p n : ℕ) → p < heap.slots →
    get_elem? old p ≡ some n → get_elem? new p ≡ some (change p n)

abbrev pub SlotsBecome : (ℕ → ℕ → ℕ) → Pause → Pause → Type 0
SlotsBecome change old new = WordsBecome change old.shape old.words new.words

-- no flag is set that was not, but those of cards of which this is so
abbrev pub RaisesOnly : (ℕ → Type 0) → RaceShape → List ℕ → List ℕ → Type 0
RaisesOnly IsStored heap old new = (card : ℕ) → card < heap.cards → IsFlagged heap new card
    → IsFlagged heap old card ⊎ ((c : ℕ) × IsStored c × (c / 8 ≡ card / 8))

abbrev pub FlagsRise : (ℕ → Type 0) → Pause → Pause → Type 0
FlagsRise IsStored old new = RaisesOnly IsStored old.shape old.words new.words

-- no flag is set that was not
abbrev pub NoFlagRises : Pause → Pause → Type 0
NoFlagRises old new = FlagsRise (λ card. ⊥) old new

-- no word becomes another
abbrev pub same_word : ℕ → ℕ → ℕ
same_word slot word = word

-- one slot's word becomes this
abbrev pub one_word : ℕ → ℕ → ℕ → ℕ → ℕ
one_word changed new slot word = if slot == changed then new else word

-- those of the region's slots become null
abbrev pub wiped_word : RaceShape → ℕ → ℕ → ℕ → ℕ
wiped_word heap region slot word = if slot / heap.span == region then 0 else word

-- those of `count` slots at or after `to` become the old words of those at or after `from`
abbrev pub copied_word : List ℕ → ℕ → ℕ → ℕ → ℕ → ℕ → ℕ
copied_word old from to count slot word =
    if nat_le to slot && nat_lt slot (to + count) then slice_index old (from + (slot - to))
    else word

-- all that was pending is refined, which are these cards, ascending
pub record AreAllRefined (old : Table) (cards : List ℕ) (new : Table) : Type 0 where
  pub ascending : IsStrictlyIncreasing cards
  pub refinable : AreRefinable old cards
  pub table : new ≡ refined cards old
  pub clean : new.pending ≡ set.empty
  pub covered : IsCovered new

-- a drain is whole
abbrev pub IsWhole : Drained → Type 0
IsWhole (Cards cards refined) = Unit {0}
IsWhole (Short refined) = ⊥

-- what a drain of the region answers: every card that holds into it, and only cards that do or that
-- were recorded for it
pub record IsExactAtPause (old : Table) (region : ℕ) (cards : List ℕ) : Type 0 where
  pub every : (card : ℕ) → Holds old card region → Contains cards card
  pub only : (card : ℕ) → Contains cards card → IsRecorded old card region ⊎ Holds old card region

-- null is stored to as many slots at or after `first`
abbrev pub nulled : ℕ → ℕ → Table → Table
nulled first zero table = table
nulled first (suc count) table = stored (nulled first count table) (first + count) None

-- null is stored to each slot of the region
abbrev pub wiped : ℕ → Table → Table
wiped region table =
    nulled (region * (table.layout.cards * table.layout.slots))
    (table.layout.cards * table.layout.slots) table

-- the pairs of the region's cards are recorded no more
abbrev pub forgotten : ℕ → Table → Table
forgotten region table =
    record {
      layout = table.layout;
      refs = table.refs;
      pending = table.pending;
      recorded = set.retain table.recorded (λ pair.
          not (region_of_card table.layout pair.0 == region));
    }
