-- What contracts see of a core: the plain table, the hot ring with its counts, the settings, and
-- how many slots were read.
use Rattle.std.specs.Prelude.{◌∷◌, ◌≡◌, ◌<◌, ◌≤◌, ◌↔◌}
use Rattle.g1_core.specs.Prelude.{ℕ, List, [], Option, Some, None, length}
use Rattle.g1_core.specs.Prelude.{nat_eq, Contains, All, IfSome, slice_index_or, refl, IsDistinct}
use Rattle.g1_core.specs.Prelude.{filter_map, enumerate_from, Coded, code_by, coded×, coded_ℕ}
use Rattle.g1_core.specs.Prelude.{coded_list, coded_option, Shape, IsShape, shape_code, slot_count}
use Rattle.g1_core.specs.Prelude.{card_count, CardSet, PairSet, Mark, Clean, Dirty, Held, Cells}
use Rattle.g1_core.specs.Prelude.{AreCells, Pairs, Ring, ring_code, new_ring}
use Rattle.std.specs.FinSet as set
pub use Rattle.g1_core.specs.Table.{Table}
use Rattle.g1_core.specs.Table.{IsCovered, IsPending, AreOutside, refined, opening}
pub use Rattle.g1_core.specs.declared.config.Settings.{Settings}
use Rattle.g1_core.specs.Settings.{settings_code}

-- what a refusal leaves as it was
pub record State : Type 0 where
  pub table : Table
  pub ring : Ring

pub record Machine : Type 0 where
  pub state : State
  pub settings : Settings
  pub reads : ℕ

-- a table, a state and a machine are stored as the tuples of their fields
abbrev pub table_code : Coded Table
table_code =
    code_by (Shape × (List (Option ℕ) × (CardSet × PairSet)))
    (coded× shape_code (coded× (coded_list (coded_option coded_ℕ))
    (coded× (set.code coded_ℕ) (set.code (coded× coded_ℕ coded_ℕ)))))
    (λ t. (t.layout, (t.refs, (t.pending, t.recorded)))) (λ p. record {
      layout = p.0;
      refs = p.1.0;
      pending = p.1.1.0;
      recorded = p.1.1.1;
    }) (λ _. refl)

abbrev pub state_code : Coded State
state_code =
    code_by (Table × Ring) (coded× table_code ring_code) (λ s. (s.table, s.ring)) (λ p.
    record { table = p.0; ring = p.1 }) (λ _. refl)

abbrev pub machine_code : Coded Machine
machine_code =
    code_by (State × (Settings × ℕ)) (coded× state_code (coded× settings_code coded_ℕ)) (λ m.
    (m.state, (m.settings, m.reads))) (λ p. record {
      state = p.0;
      settings = p.1.0;
      reads = p.1.1;
    }) (λ _. refl)

-- the card of a mark that is not clean
abbrev pub marked_card : ℕ × Mark → Option ℕ
marked_card (card, Clean) = None
marked_card (card, Dirty) = Some card
marked_card (card, Held) = Some card

-- A card is pending where it is dirty or held in the ring.
abbrev pub pending_of : List Mark → CardSet
pending_of marks = set.from_list (filter_map marked_card (enumerate_from 0 marks))

-- the table that a heap and the recorded pairs stand for
abbrev pub table_from : Cells → PairSet → Table
table_from heap pairs =
    record {
      layout = heap.layout;
      refs = heap.refs;
      pending = pending_of heap.marks;
      recorded = pairs;
    }

abbrev pub state_from : Cells → PairSet → Ring → State
state_from heap pairs ring = record { table = table_from heap pairs; ring = ring }

abbrev pub machine_from : Cells → PairSet → Ring → Settings → Machine
machine_from heap pairs ring settings =
    record { state = state_from heap pairs ring; settings = settings; reads = heap.reads }

-- The ring holds distinct cards, each of them pending.
pub record IsPlaced (s : State) : Type 0 where
  pub some : 1 ≤ s.ring.capacity
  pub distinct : IsDistinct nat_eq s.ring.cards
  pub pending : All (IsPending s.table) s.ring.cards

-- What every core keeps: one reference a slot, to places of the heap; pending cards of the heap;
-- recorded pairs of the heap, each with its card outside its region; cover; and a ring of distinct
-- pending cards.
pub record IsSound (s : State) : Type 0 where
  pub shape : IsShape s.table.layout
  pub slots : length s.table.refs ≡ slot_count s.table.layout
  pub places : All (λ target. IfSome target (λ place. place < slot_count s.table.layout))
      s.table.refs
  pub pending : (card : ℕ) → IsPending s.table card → card < card_count s.table.layout
  pub recorded : AreOutside s.table
  pub cover : IsCovered s.table
  pub ring : IsPlaced s

-- What every call leaves: a sound core of the same layout and settings, whose count of reads has
-- not fallen.
pub record IsLater (old new : Machine) : Type 0 where
  pub layout : new.state.table.layout ≡ old.state.table.layout
  pub settings : new.settings ≡ old.settings
  pub sound : IsSound new.state
  pub reads : old.reads ≤ new.reads

-- Nothing but the count of reads has changed, which has not fallen.
pub record IsOnlyRead (old new : Machine) : Type 0 where
  pub state : new.state ≡ old.state
  pub settings : new.settings ≡ old.settings
  pub reads : old.reads ≤ new.reads

-- What the parts of a core keep: the cards with the mark held are just those in the ring, each
-- once, the number of pending cards is known, each reference across regions is covered, and each
-- recorded pair's card lies outside its region.
pub record AreParts (heap : Cells) (pairs : PairSet) (ring : Ring) (pending : ℕ) : Type 0 where
  pub cells : AreCells heap
  pub counts : length ring.counts ≡ card_count heap.layout
  pub some : 1 ≤ ring.capacity
  pub distinct : IsDistinct nat_eq ring.cards
  pub held : (card : ℕ) → Contains ring.cards card ↔ (slice_index_or heap.marks card Clean ≡ Held)
  pub known : pending ≡ set.len (pending_of heap.marks)
  pub cover : IsCovered (table_from heap pairs)
  pub outside : AreOutside (table_from heap pairs)

-- and of one layout
pub record IsCore (heap : Cells) (sets : Pairs) (ring : Ring) (pending : ℕ) : Type 0 where
  pub layouts : sets.layout ≡ heap.layout
  pub parts : AreParts heap sets.pairs ring pending

-- the pairs after a card was refined
abbrev pub gained : Cells → PairSet → ℕ → PairSet
gained heap pairs card = (refined (card ∷ []) (table_from heap pairs)).recorded

-- a new core
abbrev pub new_machine : Shape → Settings → Machine
new_machine l s =
    record {
      state = record { table = opening l; ring = new_ring l s.hot s.ring };
      settings = s;
      reads = 0;
    }
