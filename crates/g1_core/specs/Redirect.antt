-- What a redirect changes.
use Rattle.std.specs.Prelude.{◌≡◌, ◌≢◌, ◌≤◌, ◌↔◌, ◌+◌, ◌*◌, if◌then◌else◌}
use Rattle.g1_core.specs.Prelude.{ℕ, List, [], Option}
use Rattle.g1_core.specs.Prelude.{Some, None, Contains, length, fold, slice_set, slice_index_or}
use Rattle.g1_core.specs.Prelude.{filter_map, flat_map, range_with_len, Shape, region_of_card}
use Rattle.g1_core.specs.Prelude.{same_offset, reset}
use Rattle.g1_core.specs.declared.redirection.Change.{Change}
use Rattle.g1_core.specs.declared.reply.Redirected.{Redirected}
use Rattle.g1_core.specs.declared.reply.Redirected.TheVariants.{Moved, Short}
use Rattle.g1_core.specs.Table.{enters, moved, refined}
use Rattle.g1_core.specs.Machine.{Machine}
use Rattle.g1_core.specs.Pause.{IsDrainOrder, ring_with}
use Rattle.g1_core.specs.Clearing.{member_count}

-- the change of a slot that refers to this, if it lies outside the region and refers into it
abbrev pub change_at : Shape → ℕ → ℕ → ℕ → Option ℕ → Option Change
change_at l from to slot None = None
change_at l from to slot (Some place) =
    if enters l from (slot, Some place)
    then Some (record { slot = slot; place = same_offset l place to }) else None

-- the changes of some slots, in their order
abbrev pub changes_of : Shape → List (Option ℕ) → ℕ → ℕ → List ℕ → List Change
changes_of l refs from to slots =
    filter_map (λ slot. change_at l from to slot (slice_index_or refs slot None)) slots

-- the slots of a card, and of some cards
abbrev pub slots_of : Shape → ℕ → List ℕ
slots_of l card = range_with_len (card * l.slots) l.slots

abbrev pub slots_on : Shape → List ℕ → List ℕ
slots_on l cards = flat_map (slots_of l) cards

-- what the slots refer to once the changes are made
abbrev pub changed : List (Option ℕ) → List Change → List (Option ℕ)
changed refs changes =
    fold (λ now change. slice_set now change.slot (Some change.place)) refs changes

-- The list has those cards of the others that have a slot to change and lie outside the region.
abbrev pub AreGaining : Shape → List (Option ℕ) → ℕ → ℕ → List ℕ → List ℕ → Type 0
AreGaining l refs from to cards gaining =
    (card : ℕ) → Contains gaining card
    ↔ (Contains cards card × (1 ≤ length (changes_of l refs from to (slots_of l card)))
    × (region_of_card l card ≢ to))

-- All references into the region were moved, where nothing was pending; the ring stays.
pub record IsMoved (old : Machine) (from to slots : ℕ) (new : Machine) : Type 0 where
  pub state : new.state ≡ record { table = moved from to old.state.table; ring = old.state.ring }
  pub settings : new.settings ≡ old.settings
  pub grown : old.reads ≤ new.reads
  pub reads : new.reads ≤ old.reads + member_count old.state.table from
      * old.state.table.layout.slots

-- Only the members of the region were read.
pub record AreMembersRead (old : Machine) (from : ℕ) (new : Machine) : Type 0 where
  pub state : new.state ≡ old.state
  pub settings : new.settings ≡ old.settings
  pub grown : old.reads ≤ new.reads
  pub reads : new.reads ≤ old.reads + member_count old.state.table from
      * old.state.table.layout.slots

-- A whole redirect refined all that was pending, in the order of a drain, and then moved the
-- references. Every count is 0.
pub record IsWholeRedirect (old : Machine) (from to : ℕ) (cards : List ℕ)
    (new : Machine) : Type 0 where
  pub order : IsDrainOrder old.state cards []
  pub table : new.state.table ≡ moved from to (refined cards old.state.table)
  pub ring : new.state.ring ≡ reset (ring_with old.state.ring [])
  pub settings : new.settings ≡ old.settings
  pub reads : new.reads ≤ old.reads
      + (length cards + member_count (refined cards old.state.table) from)
      * old.state.table.layout.slots

-- A short redirect only refined some cards, in the order of a drain. The counts stay.
pub record IsShortRedirect (old : Machine) (from : ℕ) (cards : List ℕ)
    (new : Machine) : Type 0 where
  pub order : IsDrainOrder old.state cards new.state.ring.cards
  pub table : new.state.table ≡ refined cards old.state.table
  pub ring : new.state.ring ≡ ring_with old.state.ring new.state.ring.cards
  pub settings : new.settings ≡ old.settings
  pub reads : new.reads ≤ old.reads
      + (length cards + member_count (refined cards old.state.table) from + 1)
      * old.state.table.layout.slots

abbrev pub DoesRedirect : ℕ → ℕ → Redirected → Machine → Machine → Type 0
DoesRedirect from to (Moved slots cards) old new = IsWholeRedirect old from to cards new
DoesRedirect from to (Short cards) old new = IsShortRedirect old from cards new
