-- What the calls on the parties of a race do.
use Rattle.std.specs.Prelude.{◌≡◌, ◌<◌, ◌∷◌, if◌then◌else◌, ◌+◌, ◌%◌, ◌^◌, ◌≤◌}
use Rattle.g1_handles.specs.Prelude.{ℕ, Bool, List, [], length, slice_index_or, slice_set, Kind}
use Rattle.g1_handles.specs.Prelude.{map, All, Option, Some, None, IsSome, IsSomeAnd, false}
use Rattle.g1_handles.specs.Prelude.{arc_value, Null, Race, Racer, Sweeper, View, IsWord, IsFound}
use Rattle.g1_handles.specs.Prelude.{HasStored, stored_view, race_shape, racer_view, sweeper_start}
use Rattle.g1_handles.specs.Prelude.{sweeper_view, HasCleaned}
use Rattle.g1_handles.specs.Codes.{kind_word}
use Rattle.g1_handles.specs.declared.party.counts.PartyCounts.{PartyCounts}
use Rattle.g1_handles.specs.declared.party.counts.StoreCounts.{StoreCounts}
use Rattle.g1_handles.specs.declared.party.counts.SweepCounts.{SweepCounts}
use Rattle.g1_race_words.specs.Steps.{no_seat}
use Rattle.g1_handles.specs.declared.party.Role.{Ghosts}
use Rattle.g1_handles.specs.declared.party.Party.{Party}
use Rattle.g1_handles.specs.declared.handles.RacerHandle.{RacerHandle}
use Rattle.g1_handles.specs.declared.handles.SweeperHandle.{SweeperHandle}
use Rattle.g1_handles.specs.declared.handles.ReaderHandle.{ReaderHandle}
use Rattle.g1_handles.specs.Own.{RacerParty, SweeperParty, ReaderParty}

-- the counts of a party of this number that has done nothing
abbrev pub no_counts : ℕ → PartyCounts
no_counts n = record {
  number = n;
  stores = record { by_kind = 0 ∷ 0 ∷ 0 ∷ 0 ∷ [] };
  sweeps = record { refined = 0; cleaned = 0; references = 0 };
}

-- one more, of which 2^64 is 0
abbrev pub one_more : ℕ → ℕ
one_more n = (n + 1) % 2 ^ 64

-- how many stores of this kind are counted
abbrev pub stored_as : StoreCounts → Kind → ℕ
stored_as c k = slice_index_or c.by_kind (kind_word k) 0

-- the counts after one more store, of this kind
abbrev pub one_more_of : StoreCounts → Kind → StoreCounts
one_more_of c k = record { by_kind = slice_set c.by_kind (kind_word k) (one_more (stored_as c k)) }

-- the counts after one more card, which was dirty or not, with this many references to record
abbrev pub and_swept : SweepCounts → Bool → ℕ → SweepCounts
and_swept c was_dirty references = record {
  refined = one_more c.refined;
  cleaned = (c.cleaned + (if was_dirty then 1 else 0)) % 2 ^ 64;
  references = (c.references + references) % 2 ^ 64;
}

-- the same of all that a party has counted
abbrev pub with_store : PartyCounts → Kind → PartyCounts
with_store c k =
    record { number = c.number; stores = one_more_of c.stores k; sweeps = c.sweeps }

abbrev pub with_refined_card : PartyCounts → Bool → ℕ → PartyCounts
with_refined_card c was_dirty references = record {
  number = c.number;
  stores = c.stores;
  sweeps = and_swept c.sweeps was_dirty references;
}

-- each of these has counted nothing, and has its index as number
abbrev pub AreNew : List PartyCounts → Type 0
AreNew counts = (i : ℕ) (c : PartyCounts) → i < length counts
    → slice_index_or counts i c ≡ no_counts i

-- a racer with its race, and what it has counted
pub record Racing : Type 0 where
  pub race : Race
  pub racer : Racer
  pub counts : PartyCounts

-- a sweeper with its race, and what it has counted
pub record Sweeping : Type 0 where
  pub race : Race
  pub sweeper : Sweeper
  pub counts : PartyCounts

abbrev pub racing : Race → Racer → PartyCounts → Racing
racing race racer counts = record { race = race; racer = racer; counts = counts }

abbrev pub racing_in : RacerParty → Racer → Racing
racing_in m racer = racing (arc_value m.race) racer m.counts

abbrev pub sweeping_in : SweeperParty → Sweeper → Sweeping
sweeping_in m sweeper =
    record { race = arc_value m.race; sweeper = sweeper; counts = m.counts }

module _ {P : Type 0} {g : Ghosts P} {T : Type 0} (seen : Party P g → P → T) where
  -- the handle has a racer, a sweeper or a reader, and what is seen of it is so
  abbrev pub OfRole : Option (Party P g) → (T → Type 0) → Type 0
  OfRole None Q = ⊥
  OfRole (Some m) Q = IsSomeAnd m.role (λ p. Q (seen m p))

-- the handle has a racer, and it is so of it
abbrev pub OfRacer : Option RacerParty → (Racing → Type 0) → Type 0
OfRacer m Q = OfRole racing_in m Q

-- the handle has a sweeper, and it is so of it
abbrev pub OfSweeper : Option SweeperParty → (Sweeping → Type 0) → Type 0
OfSweeper m Q = OfRole sweeping_in m Q

-- a racer before and after a store of the place t to slot p
pub record Stores (a : Racing) (p : ℕ) (t : Option ℕ) (k : Kind) (b : Racing) : Type 0 where
  pub race : b.race ≡ a.race
  pub stored : (old : ℕ) × HasStored (race_shape a.race) p t old k a.racer b.racer
  pub counts : b.counts ≡ with_store a.counts k

-- a racer before and after it stored this word of data to slot p, which had the old word
pub record StoresData (a : Racing) (p word old : ℕ) (b : Racing) : Type 0 where
  pub race : b.race ≡ a.race
  pub high : 2 ^ 32 ≤ word
  pub view : racer_view b.racer ≡ stored_view (race_shape a.race) (racer_view a.racer) p
      word old false
  pub log : b.racer.log.items ≡ a.racer.log.items
  pub found : IsFound (racer_view a.racer) p old
  pub fits : IsWord (race_shape a.race) old
  pub counts : b.counts ≡ with_store a.counts Null

-- a racer before and after its log was taken
pub record TakesLog (a : Racing) (log : List ℕ) (b : Racing) : Type 0 where
  pub race : b.race ≡ a.race
  pub view : racer_view b.racer ≡ racer_view a.racer
  pub cards : log ≡ a.racer.log.items
  pub empty : b.racer.log.items ≡ []
  pub counts : b.counts ≡ a.counts

-- a sweeper before and after it refined a card: it made the card clean, and its counts go up by
-- whether the card was dirty and by how many references into other regions it read
pub record Sweeps (a : Sweeping) (card : ℕ) (b : Sweeping) : Type 0 where
  pub race : b.race ≡ a.race
  pub begin : sweeper_start b.sweeper ≡ sweeper_start a.sweeper
  pub swept : (sweeper_view b.sweeper).swept ≡ card ∷ (sweeper_view a.sweeper).swept
  pub was_dirty : Bool
  pub references : ℕ
  pub clean : HasCleaned (sweeper_view a.sweeper) card was_dirty
  pub cleaned : (sweeper_view b.sweeper).cleanings
      ≡ (if was_dirty then card ∷ (sweeper_view a.sweeper).cleanings
      else (sweeper_view a.sweeper).cleanings)
  pub read : length (sweeper_view b.sweeper).pairs
      ≡ length (sweeper_view a.sweeper).pairs + references
  pub counts : b.counts ≡ with_refined_card a.counts was_dirty references

-- what the handles hold
abbrev pub held_racers : List RacerHandle → List (Option RacerParty)
held_racers hs = map (λ h. h.value) hs

abbrev pub held_sweepers : List SweeperHandle → List (Option SweeperParty)
held_sweepers hs = map (λ h. h.value) hs

abbrev pub held_readers : List ReaderHandle → List (Option ReaderParty)
held_readers hs = map (λ h. h.value) hs

-- what this racer or sweeper knows
abbrev pub role_view : {P : Type 0} → (P → View) → Option P → View
role_view view None = no_seat
role_view view (Some role) = view role

-- the handles are closed
abbrev pub AreClosed : {A : Type 0} → List (Option A) → Type 0
AreClosed values = All (λ v. v ≡ None) values

module _ {P : Type 0} {g : Ghosts P} where
  -- the racer, the sweeper or the reader behind a handle, if there is one
  abbrev pub role_in : Option (Party P g) → Option P
  role_in None = None
  role_in (Some m) = m.role

  -- what the party behind a handle has counted
  abbrev pub counts_of : Option (Party P g) → PartyCounts
  counts_of None = no_counts 0
  counts_of (Some m) = m.counts

  -- the handle has a party with its role, whose race has this many parties
  abbrev pub TakesPart : ℕ → Option (Party P g) → Type 0
  TakesPart parties m =
      IsSomeAnd m (λ x. IsSome x.role × ((race_shape (arc_value x.race)).parties ≡ parties))

  -- the handle's party is of this race
  abbrev pub BelongsTo : Race → Option (Party P g) → Type 0
  BelongsTo race m = IsSomeAnd m (λ x. arc_value x.race ≡ race)

  -- the same, and it has its role, of which this holds
  abbrev pub BelongsAs : Race → (P → Type 0) → Option (Party P g) → Type 0
  BelongsAs race Q m = BelongsTo race m × IsSomeAnd (role_in m) Q

-- what the racer or the sweeper behind a handle knows
abbrev pub racer_knows : Option RacerParty → View
racer_knows m = role_view racer_view (role_in m)

abbrev pub sweeper_knows : Option SweeperParty → View
sweeper_knows m = role_view sweeper_view (role_in m)
