-- What a race is opened with, its jobs, and the table that they leave.
use Rattle.std.specs.Prelude.{◌+◌, ◌≡◌, ◌⊎◌, ◌∷◌, ◌++◌}
use Rattle.g1_replay.specs.Prelude.{vec_len, sum_by, Shape, Options}
use Rattle.g1_replay.specs.Prelude.{capacity_of, line_rights, race_layout, race_shape, shape_of, ℕ}
use Rattle.g1_replay.specs.Prelude.{suc, nat_lt, List, [], Option, Some, None, filter_map, Sender}
use Rattle.g1_replay.specs.Prelude.{Taker, Line, Race, Racer, Sweeper, racer_view, Ended, refs_of}
use Rattle.g1_replay.specs.Prelude.{table_of, Holds, IsCovered, IsRecorded, IsPairOf, Step, Command}
use Rattle.g1_steps.specs.declared.crew.desk.Step.TheVariants as step
use Rattle.g1_replay.specs.declared.races.desk.Party.{Party}
use Rattle.g1_replay.specs.declared.races.desk.Party.TheVariants.{Racing, Sweeping}
use Rattle.g1_replay.specs.declared.races.opening.OpenRace.{OpenRace}
use Rattle.g1_replay.specs.declared.races.parties.Returned.{Returned}
use Rattle.g1_replay.specs.Parties.{IsPartyOf, is_racer, party_logged, party_rights}
use Rattle.g1_replay.specs.Race.{AreLeftBy, StoresInto}

-- each item fits its place, the first of them place k
abbrev pub AllFrom : {A : Type 0} → (ℕ → A → Type 0) → ℕ → List A → Type 0
AllFrom P k [] = Unit {0}
AllFrom P k (x ∷ xs) = P k x × AllFrom P (suc k) xs

-- it has stored nothing
abbrev pub HasStoredNothing : Party → Type 0
HasStoredNothing (Racing r s) = (number : ℕ) × ((racer_view r).histories ≡ (number, []) ∷ [])
HasStoredNothing (Sweeping w t) = Unit {0}

-- Party k of a race that has not begun: the mutators come first.
pub record IsNewParty (race : Race) (line : Line) (mutators k : ℕ) (m : Party) : Type 0 where
  pub of : IsPartyOf race line m
  pub kind : is_racer m ≡ nat_lt k mutators
  pub logged : party_logged m ≡ 0
  pub fresh : HasStoredNothing m

-- A race over this heap, of a racer for each mutator and a sweeper for each refinement thread. Its
-- queue holds as many buffers as the limit says, and all ends of the queue are the parties'.
pub record IsOpenedBy (l : Shape) (o : Options) (opened : OpenRace) : Type 0 where
  pub layout : race_layout opened.race ≡ l
  pub shape : race_shape opened.race ≡ shape_of l (o.mutators + o.refiners)
  pub capacity : capacity_of opened.line ≡ o.config.limit
  pub many : vec_len opened.parties ≡ o.mutators + o.refiners
  pub parties : AllFrom (IsNewParty opened.race opened.line o.mutators) 0 opened.parties.items
  pub ends : sum_by party_rights opened.parties.items ≡ line_rights

-- in a race a script ends with a flush
abbrev pub with_flush : {E : Type 0} → (E → List Step) → E → List Step
with_flush steps e = steps e ++ step.Flush ∷ []

-- what a party is and has
abbrev pub racer_in : Party → Option Racer
racer_in (Racing r s) = Some r
racer_in (Sweeping w t) = None

abbrev pub sender_in : Party → Option Sender
sender_in (Racing r s) = Some s
sender_in (Sweeping w t) = None

abbrev pub sweeper_in : Party → Option Sweeper
sweeper_in (Racing r s) = None
sweeper_in (Sweeping w t) = Some w

abbrev pub taker_in : Party → Option Taker
taker_in (Racing r s) = None
taker_in (Sweeping w t) = Some t

-- These parties are back, each kind in a list of its own, as are the ends of the queue.
pub record HasBack (parties : List Party) (returned : Returned) : Type 0 where
  pub racers : returned.racers.items ≡ filter_map racer_in parties
  pub senders : returned.senders.items ≡ filter_map sender_in parties
  pub sweepers : returned.sweepers.items ≡ filter_map sweeper_in parties
  pub takers : returned.takers.items ≡ filter_map taker_in parties

-- The table that a race of these commands leaves: its references are those that the stores may
-- leave; it is covered; each recorded pair is of a card outside its region; and each card that
-- holds into a region or is recorded for it had a reference into it stored.
pub record IsTableLeftBy (mutators : ℕ) (commands : List Command) (e : Ended) : Type 0 where
  pub left : AreLeftBy e.layout mutators commands (refs_of e)
  pub covered : IsCovered (table_of e)
  pub pairs : (card region : ℕ) → IsRecorded (table_of e) card region
      → IsPairOf e.layout (card, region)
  pub had : (card region : ℕ) → IsRecorded (table_of e) card region ⊎ Holds (table_of e) card region
      → StoresInto e.layout commands card region
