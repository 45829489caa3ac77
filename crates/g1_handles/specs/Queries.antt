-- What the answers to questions stand for.
use Rattle.std.specs.Prelude.{◌≡◌, ◌+◌, ◌<◌, ◌≤◌}
use Rattle.g1_handles.specs.Prelude.{ℕ, List, length, Table, map, IsFirst, IsMissing, Differs}
use Rattle.g1_handles.specs.Prelude.{get_elem?, All, IsNextInto, IsNextMember, IsWord, Option}
use Rattle.g1_handles.specs.Prelude.{Shape, slot_count, Start, Machine, IsOnlyRead, looked_for}
use Rattle.g1_handles.specs.Prelude.{reads_after}
use mathlib.Core.Option.{some}
use Rattle.g1_handles.specs.Codes.{reference_of}
use Rattle.g1_handles.specs.Replies.{FitIn}
use Rattle.g1_handles.specs.declared.one_core.members.Listed.{Listed}
use Rattle.g1_handles.specs.declared.one_core.members.Listed.TheVariants.{Members, NoRoom}

-- This many cards are so, and an array of this length has no room for them.
pub record Overflows (AreSo : List ℕ → Type 0) (room count : ℕ) : Type 0 where
  pub cards : List ℕ
  pub so : AreSo cards
  pub counted : count ≡ length cards
  pub more : room < count

-- C is told the cards that are so, or how many they are if its array has no room for them.
abbrev pub Lists : (List ℕ → Type 0) → ℕ → Listed → Type 0
Lists AreSo room (Members cards) = AreSo cards × FitIn room cards
Lists AreSo room (NoRoom count) = Overflows AreSo room count

abbrev pub IsListOf : List ℕ → ℕ → Listed → Type 0
IsListOf cards = Lists (λ list. list ≡ cards)

-- the slot has this word, in a heap of this layout that has these words
pub record TellsWord (l : Shape) (heap : Start) (slot word : ℕ) : Type 0 where
  pub within : slot < slot_count l
  pub found : get_elem? heap.words slot ≡ some word
  pub fits : IsWord heap.shape word

-- the least card at or after `from` that is recorded for a region of the heap, or none
pub record TellsNextMember (t : Table) (region from : ℕ) (card : Option ℕ) : Type 0 where
  pub within : region < t.layout.regions
  pub next : IsNextMember t region from card

-- the least card at or after `from` that lies outside these regions of the heap and is recorded for
-- one of them, or none
pub record TellsNextInto (t : Table) (regions : List ℕ) (from : ℕ) (card : Option ℕ) : Type 0 where
  pub within : All (λ region. region < t.layout.regions) regions
  pub next : IsNextInto t regions from card

-- the words are of the least slot that refers to something else than memory does, which has these
-- references from the first slot on, and of the least of `count` slots that refers into another
-- region from a card that is neither pending nor recorded for it
pub record Finds (t : Table) (first count : ℕ) (memory : List ℕ) (differing missing : ℕ)
    : Type 0 where
  pub within : first + count ≤ slot_count t.layout
  pub reaches : first + length memory ≤ slot_count t.layout
  pub differs : IsFirst (Differs t first (map reference_of memory)) first (length memory)
      (reference_of differing)
  pub misses : IsFirst (IsMissing t) first count (reference_of missing)

-- a check of a core found these: it read the slots in order up to the one that differs, or all that
-- memory has, and then those up to the one that is missing, or all
pub record Checks (old : Machine) (first count : ℕ) (memory : List ℕ) (differing missing : ℕ)
    (new : Machine) : Type 0 where
  pub finds : Finds old.state.table first count memory differing missing
  pub read : IsOnlyRead old new
  pub reads : new.reads ≡ reads_after
      (reads_after old.reads (looked_for first (length memory) (reference_of differing)))
      (looked_for first count (reference_of missing))
