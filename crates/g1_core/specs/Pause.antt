-- What a drain does.
use Rattle.std.specs.Prelude.{◌≡◌, ◌≤◌, ◌<◌, ◌+◌, ◌*◌, ◌⊎◌, ◌↔◌, ◌∷◌, ◌++◌}
use Rattle.g1_core.specs.Prelude.{ℕ, true, List, []}
use Rattle.g1_core.specs.Prelude.{length, Contains, IsStrictlyIncreasing, reads_after, Ring, reset}
use Rattle.std.specs.FinSet as set
use Rattle.g1_core.specs.declared.reply.Drained.{Drained}
use Rattle.g1_core.specs.declared.reply.Drained.TheVariants.{Cards, Short}
use Rattle.g1_core.specs.Table.{AreMembers, AreRefinable, IsPending, refined}
use Rattle.g1_core.specs.Machine.{State, Machine}
use Rattle.g1_core.specs.Turns.{is_dirty}

-- the ring with other cards in it
abbrev pub ring_with : Ring → List ℕ → Ring
ring_with ring cards =
    record { counts = ring.counts; cards = cards; limit = ring.limit; capacity = ring.capacity }

-- the dirty cards below a bound, ascending
pub record AreDirtyBelow (s : State) (bound : ℕ) (cards : List ℕ) : Type 0 where
  pub ascending : IsStrictlyIncreasing cards
  pub just : (card : ℕ) → Contains cards card ↔ ((card < bound) × (is_dirty s card ≡ true))

-- The order of a drain: the cards of the ring, oldest first, and once none is left in it the dirty
-- cards, ascending.
pub record IsDrainOrder (s : State) (cards left : List ℕ) : Type 0 where
  pub held : List ℕ
  pub dirty : List ℕ
  pub bound : ℕ
  pub parts : cards ≡ held ++ dirty
  pub ring : s.ring.cards ≡ held ++ left
  pub below : AreDirtyBelow s bound dirty
  pub turn : (left ≡ []) ⊎ (dirty ≡ [])

-- These cards were refined, without counting, and `tried` cards were read.
pub record Drains (old : Machine) (cards : List ℕ) (tried : ℕ) (new : Machine) : Type 0 where
  pub refines : AreRefinable old.state.table cards
  pub table : new.state.table ≡ refined cards old.state.table
  pub ring : new.state.ring ≡ ring_with old.state.ring new.state.ring.cards
  pub settings : new.settings ≡ old.settings
  pub reads : new.reads ≡ reads_after old.reads (tried * old.state.table.layout.slots)

-- A short drain refined some cards in the order of a drain, and read these and at most one card
-- more. The counts stay.
pub record IsShortDrain (old : Machine) (cards : List ℕ) (new : Machine) : Type 0 where
  pub order : IsDrainOrder old.state cards new.state.ring.cards
  pub tried : ℕ
  pub each : length cards ≤ tried
  pub most : tried ≤ length cards + 1
  pub drains : Drains old cards tried new

-- A whole drain refined all that was pending in that order, and read no other card. Nothing is
-- pending, and every count is 0.
pub record IsWholeDrain (old : Machine) (cards : List ℕ) (new : Machine) : Type 0 where
  pub order : IsDrainOrder old.state cards []
  pub refines : AreRefinable old.state.table cards
  pub table : new.state.table ≡ refined cards old.state.table
  pub nothing : new.state.table.pending ≡ set.empty
  pub ring : new.state.ring ≡ reset (ring_with old.state.ring [])
  pub settings : new.settings ≡ old.settings
  pub reads : new.reads ≡ reads_after old.reads (length cards * old.state.table.layout.slots)

abbrev pub IsDrainOf : Machine → ℕ → Drained → Machine → Type 0
IsDrainOf old region (Cards cards refined) new =
    IsWholeDrain old refined new × AreMembers new.state.table region cards
IsDrainOf old region (Short refined) new = IsShortDrain old refined new

-- A card that was pending was refined, and left this ring.
pub record IsCardDrained (old : Machine) (card : ℕ) (ring : Ring) (new : Machine) : Type 0 where
  pub pending : IsPending old.state.table card
  pub table : new.state.table ≡ refined (card ∷ []) old.state.table
  pub left : new.state.ring ≡ ring
  pub settings : new.settings ≡ old.settings
  pub reads : new.reads ≡ reads_after old.reads old.state.table.layout.slots
  pub fewer : set.len new.state.table.pending + 1 ≡ set.len old.state.table.pending

-- A card was read, and nothing else.
pub record IsCardRead (old : Machine) (new : Machine) : Type 0 where
  pub state : new.state ≡ old.state
  pub settings : new.settings ≡ old.settings
  pub reads : new.reads ≡ reads_after old.reads old.state.table.layout.slots

-- The dirty cards below a bound were refined and listed after these, and those from there on are as
-- they were.
pub record IsDirtyDrained (old : Machine) (before after : List ℕ) (bound : ℕ)
    (new : Machine) : Type 0 where
  pub gone : List ℕ
  pub listed : after ≡ before ++ gone
  pub drains : Drains old gone (length gone) new
  pub ring : new.state.ring ≡ old.state.ring
  pub below : AreDirtyBelow old.state bound gone
  pub others : (card : ℕ) → bound ≤ card → is_dirty new.state card ≡ is_dirty old.state card

-- The same where a growth was refused at the last card.
pub record IsDirtyStopped (old : Machine) (before after : List ℕ) (new : Machine) : Type 0 where
  pub gone : List ℕ
  pub bound : ℕ
  pub listed : after ≡ before ++ gone
  pub drains : Drains old gone (length gone + 1) new
  pub ring : new.state.ring ≡ old.state.ring
  pub below : AreDirtyBelow old.state bound gone

-- The ring was drained, and with it these cards.
pub record IsRingDrained (old : Machine) (cards : List ℕ) (tried : ℕ) (new : Machine) : Type 0 where
  pub drains : Drains old cards tried new
  pub order : old.state.ring.cards ≡ cards ++ new.state.ring.cards

-- All that was pending was refined in the order of a drain; the counts stay.
pub record IsAllDrained (old : Machine) (cards : List ℕ) (new : Machine) : Type 0 where
  pub order : IsDrainOrder old.state cards []
  pub drains : Drains old cards (length cards) new
  pub left : new.state.ring.cards ≡ []
  pub nothing : new.state.table.pending ≡ set.empty

-- every count is 0
abbrev pub reset_machine : Machine → Machine
reset_machine m =
    record {
      state = record { table = m.state.table; ring = reset m.state.ring };
      settings = m.settings;
      reads = m.reads;
    }
