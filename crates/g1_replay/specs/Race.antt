-- What a race writes: how many stores were made, and what the drains that follow answer.
use Rattle.std.specs.Prelude.{◌≡◌, ◌≢◌, ◌⊎◌, ◌<◌, ◌==◌, ◌&&◌, if◌then◌else◌, ◌∷◌, ◌++◌}
use Rattle.g1_replay.specs.Prelude.{Mode}
use Rattle.g1_replay.specs.Prelude.{ℕ, List, [], Result, Ok, Err, Option, Some, None, Contains}
use Rattle.g1_replay.specs.Prelude.{codes, flat_map, count_by, length, slice_index_or, option_or}
use Rattle.g1_replay.specs.Prelude.{Shape, slot_count, card_of, region_of, region_of_card, Table}
use Rattle.g1_replay.specs.Prelude.{Holds, Drained, Cards, Short, Command, Drain, Store, Call}
use Rattle.g1_replay.specs.Prelude.{drained_line, stores_text, Options, Stop, BookFull, NoThread}
use Rattle.std.specs.List.Sorted.{IsStrictlyIncreasing}
use Rattle.std.specs.FinSet as set
use Rattle.g1_trace.specs.declared.mode.Mode.TheVariants as mode
use Rattle.g1_replay.specs.Crew.{CrewRan}
use Rattle.g1_replay.specs.Drains.{drains}
use Rattle.g1_replay.specs.Output.{dialect_in}
use Rattle.g1_replay.specs.Scripted.{IsRunEnd, ScriptEnd, Scripting}
use Rattle.g1_replay.specs.Scripts.{is_store_command}

-- what the mutator stores to the slot last, if it stores to it
abbrev pub last_by : (mutator slot : ℕ) → List Command → Option (Option ℕ)
last_by mutator slot [] = None
last_by mutator slot (Store by to target ∷ commands) =
    option_or (last_by mutator slot commands)
    (if (by == mutator) && (to == slot) then Some target else None)
last_by mutator slot (c ∷ commands) = last_by mutator slot commands

-- The references that racing stores may leave: each slot refers to what some mutator stores to it
-- last, or to nothing where none stores to it.
pub record AreLeftBy (l : Shape) (mutators : ℕ) (commands : List Command)
    (refs : List (Option ℕ)) : Type 0 where
  pub sized : length refs ≡ slot_count l
  pub last : (slot : ℕ) → slot < slot_count l
      → ((mutator : ℕ) × (mutator < mutators)
      × (last_by mutator slot commands ≡ Some (slice_index_or refs slot None)))
      ⊎ ((slice_index_or refs slot None ≡ None)
      × ((mutator : ℕ) → mutator < mutators → last_by mutator slot commands ≡ None))

-- a heap of these references
abbrev pub referring : Shape → List (Option ℕ) → Table
referring l refs = record { layout = l; refs = refs; pending = set.empty; recorded = set.empty }

-- Some store is of a reference into the region, to a slot of the card.
pub record StoresInto (l : Shape) (commands : List Command) (card region : ℕ) : Type 0 where
  pub mutator : ℕ
  pub slot : ℕ
  pub place : ℕ
  pub stores : Contains commands (Store mutator slot (Some place))
  pub on_card : card_of l slot ≡ card
  pub into : region_of l place ≡ region

-- What a drain of the region answers after a race: ascending, cards outside the region, every card
-- that holds into it by these references, and only cards to which a reference into it was stored.
pub record IsExactByStores (l : Shape) (commands : List Command) (refs : List (Option ℕ))
    (region : ℕ) (cards : List ℕ) : Type 0 where
  pub ascending : IsStrictlyIncreasing cards
  pub outside : (card : ℕ) → Contains cards card → region_of_card l card ≢ region
  pub every : (card : ℕ) → Holds (referring l refs) card region → Contains cards card
  pub only : (card : ℕ) → Contains cards card → StoresInto l commands card region

-- one answer a drain: an exact list, or a short one
abbrev pub AreExact : Shape → List Command → List (Option ℕ) → List Command → List Drained → Type 0
AreExact l commands refs [] [] = Unit {0}
AreExact l commands refs (Call (Drain region) ∷ ds) (Cards cards refined ∷ answers) =
    IsExactByStores l commands refs region cards × AreExact l commands refs ds answers
AreExact l commands refs (Call (Drain region) ∷ ds) (Short refined ∷ answers) =
    AreExact l commands refs ds answers
AreExact l commands refs ds answers = ⊥

-- a line an answer
abbrev pub drain_text : Drained → List ℕ
drain_text (Cards cards refined) = drained_line cards
drain_text (Short refined) = codes "drained short\n"

abbrev pub drained_text : List Drained → List ℕ
drained_text answers = flat_map drain_text answers

-- The race left these references, and the drains of the first `drained` regions gave these answers.
pub record HasRaced (l : Shape) (mutators : ℕ) (commands : List Command) (drained : ℕ)
    (answers : List Drained) : Type 0 where
  pub refs : List (Option ℕ)
  pub left : AreLeftBy l mutators commands refs
  pub exact : AreExact l commands refs (drains drained) answers

-- Nothing was written, since something stopped the race; or how many stores there are was, and the
-- lines of the drains of the first regions behind it, at the end without a stop of all regions.
abbrev pub IsRaceText : Shape → ℕ → List Command → Result (Unit {0}) Stop → List ℕ → Type 0
IsRaceText l mutators commands r text = ((stop : Stop) × (r ≡ Err stop) × (text ≡ []))
    ⊎ ((drained : ℕ) × (answers : List Drained) × HasRaced l mutators commands drained answers
    × (r ≢ Err NoThread) × (r ≡ Ok tt → drained ≡ l.regions)
    × (text ≡ stores_text (count_by is_store_command commands) ++ drained_text answers))

-- how a race's scripts end: a race has no book
abbrev pub RaceRan : ℕ → ScriptEnd
RaceRan mutators l commands r text =
    IsRunEnd r × (r ≢ Err BookFull) × IsRaceText l mutators commands r text

-- the scripts of traces in this mode: those of a race, or of a crew
abbrev pub ran_in : Mode → Options → ScriptEnd
ran_in mode.Race o = RaceRan o.mutators
ran_in _ o = CrewRan o

abbrev pub scripting : Mode → Options → Scripting
scripting mode o = record { dialect = dialect_in mode o; ran = ran_in mode o }

abbrev pub crewing : Options → Scripting
crewing o = scripting mode.Crew o

abbrev pub racing : Options → Scripting
racing o = scripting mode.Race o
