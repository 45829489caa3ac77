-- One card of a drain: what refining it leaves, and what a refused record leaves.
use Rattle.std.specs.Prelude.{◌≡◌, ◌≢◌, ◌<◌, ◌≤◌, ◌+◌, ◌∷◌, ◌↔◌}
use Rattle.g1_core.specs.{subst, ◌∙◌, ℕ, true, false, [], length, get_or, Option, Some, None, refl, sym, ap, arith, Contains, IfSome, IfNone, MatchOption, nat_eq, slice_get, IsDistinct, card_count, Clean, Dirty, Cells, with_mark, with_reads, HasNoDirty, IsFirstDirty, Pairs, Ring, popped, IsPending, refined, IsCore, table_from, state_from, machine_from, pending_of, gained, is_dirty, IsCardDrained}
use Rattle.g1_core.specs.Machine.{Machine, Settings, Table}
use Rattle.std.specs.FinSet as set
use Rattle.g1_core.proofs.MarkLemmas.{held_clean, dirty_clean, is_card, to_pending, one_less}
use Rattle.g1_core.proofs.PartLemmas.{IsMade, cleaned, some_pending, IsFront, front_of, oldest_mark, left_distinct, left_stands, apart_stands, mark_dirty, is_dirty_mark, not_dirty}

-- a core after one of its cards was refined: what its parts keep, and what its machine is
pub record IsDrainedTo (m : Machine) (card : ℕ) (left : Ring) (heap' : Cells) (sets' : Pairs) (ring' : Ring) (pending' : ℕ) (settings : Settings) : Type 0 where
  pub core : IsCore heap' sets' ring' pending'
  pub drained : IsCardDrained m card left (machine_from heap' sets'.pairs ring' settings)

module _ (heap : Cells) (sets : Pairs) (ring : Ring) (pending : ℕ) (settings : Settings) (m : Machine) (core : IsCore heap sets ring pending) (view : machine_from heap sets.pairs ring settings ≡ m) (heap' : Cells) (sets' : Pairs) (pending' : ℕ) (card : ℕ)
    (eh : heap' ≡ with_mark (with_reads heap heap.layout.slots) card Clean) (ep : sets'.pairs ≡ gained heap sets.pairs card) (el : sets'.layout ≡ sets.layout) (less : pending' + 1 ≡ pending) where
  drained_to : (ring' : Ring) → get_or heap.marks card Clean ≢ Clean → length ring'.counts ≡ length ring.counts → ring'.capacity ≡ ring.capacity → IsDistinct nat_eq ring'.cards
      → ((q : ℕ) → Contains ring'.cards q ↔ (Contains ring.cards q × (q ≢ card))) → IsDrainedTo (machine_from heap sets.pairs ring settings) card ring' heap' sets' ring' pending' settings
  drained_to ring' marked counts capacity distinct stands =
      let made : IsMade (with_mark (with_reads heap heap.layout.slots) card Clean) (gained heap sets.pairs card) ring' pending' (refined (card ∷ []) (table_from heap sets.pairs)) = cleaned heap sets.pairs ring pending core.parts ring' pending' card heap.layout.slots marked less counts capacity distinct stands in
      let was : IsPending (table_from heap sets.pairs) card = to_pending heap.marks card marked in
      let table : table_from heap' sets'.pairs ≡ refined (card ∷ []) (table_from heap sets.pairs) = (λ i. table_from (eh i) (ep i)) ∙ made.table in
      record {
        core = record { layouts = el ∙ core.layouts ∙ ap (λ (h : Cells). h.layout) (sym eh); parts = rw (eh, ep) made.parts };
        drained = record {
          pending = was;
          table = table;
          left = refl;
          settings = refl;
          reads = ap (λ (h : Cells). h.reads) eh;
          fewer = ap (λ (t : Table). set.len t.pending + 1) table ∙ one_less (pending_of heap.marks) card was;
        };
      }

  pub card_drained : is_dirty m.state card ≡ true → IsDrainedTo m card m.state.ring heap' sets' ring pending' settings
  card_drained h =
      let dirty : get_or heap.marks card Clean ≡ Dirty = mark_dirty heap sets.pairs ring pending core.parts card (subst (λ (m : Machine). is_dirty m.state card ≡ true) (sym view) h) in
      subst (λ (m : Machine). IsDrainedTo m card m.state.ring heap' sets' ring pending' settings) view (drained_to ring (dirty_clean _ dirty) refl refl core.parts.distinct (apart_stands heap sets.pairs ring pending core.parts card dirty))

  pub oldest_drained : (ring' : Ring) → ring' ≡ popped ring → Some card ≡ slice_get ring.cards 0 → IsDrainedTo m card (popped m.state.ring) heap' sets' ring' pending' settings
  oldest_drained ring' er first =
      let front : IsFront ring.cards card = front_of ring.cards card first in
      subst (λ (m : Machine). IsDrainedTo m card (popped m.state.ring) heap' sets' ring' pending' settings) view (rw er (drained_to (popped ring) (held_clean _ (oldest_mark heap sets.pairs ring pending core.parts card front.rest front.cards)) refl refl
      (left_distinct heap sets.pairs ring pending core.parts card front.rest front.cards) (left_stands heap sets.pairs ring pending core.parts card front.rest front.cards)))

pub oldest_some : (heap : Cells) (sets : Pairs) (ring : Ring) (pending : ℕ) → IsCore heap sets ring pending → (card : ℕ) → Some card ≡ slice_get ring.cards 0 → 1 ≤ pending
oldest_some heap sets ring pending core card first =
    let front : IsFront ring.cards card = front_of ring.cards card first in
    some_pending heap sets.pairs ring pending core.parts card (held_clean _ (oldest_mark heap sets.pairs ring pending core.parts card front.rest front.cards))

pub dirty_inside : (heap : Cells) (sets : Pairs) (ring : Ring) (pending : ℕ) → IsCore heap sets ring pending → (card : ℕ) → is_dirty (state_from heap sets.pairs ring) card ≡ true → (card < card_count heap.layout) × (1 ≤ pending)
dirty_inside heap sets ring pending core card h =
    let mark : get_or heap.marks card Clean ≡ Dirty = mark_dirty heap sets.pairs ring pending core.parts card h in
    (omega (arith, is_card heap.marks card (dirty_clean _ mark), core.parts.cells.cards), some_pending heap sets.pairs ring pending core.parts card (dirty_clean _ mark))

-- a card was read, and its record was refused
module _ (heap : Cells) (sets : Pairs) (ring : Ring) (pending : ℕ) (settings : Settings) (core : IsCore heap sets ring pending) (heap' : Cells) (sets' : Pairs) (pending' : ℕ)
    (eh : heap' ≡ with_reads heap heap.layout.slots) (es : sets' ≡ sets) (ep : pending' ≡ pending) where
  pub read_core : IsCore heap' sets' ring pending'
  read_core = rw (eh, es, ep) (record { layouts = core.layouts; parts = search })

-- the next dirty card, by the marks and by the state
module _ (heap : Cells) (sets : Pairs) (ring : Ring) (pending : ℕ) (settings : Settings) (m : Machine) (core : IsCore heap sets ring pending) (view : machine_from heap sets.pairs ring settings ≡ m) (from : ℕ) where
  abbrev none_dirty : ℕ → Type 0
  none_dirty card = is_dirty m.state card ≡ false

  stays_clean : (card : ℕ) → get_or heap.marks card Clean ≢ Dirty → none_dirty card
  stays_clean card ne = ap (λ (m : Machine). is_dirty m.state card) (sym view) ∙ not_dirty heap sets.pairs ring pending core.parts card ne

  pub none_pending_dirty : pending ≡ 0 → (card : ℕ) → from ≤ card → none_dirty card
  none_pending_dirty none card le = stays_clean card (λ dirty. absurd (omega (arith, some_pending heap sets.pairs ring pending core.parts card (dirty_clean _ dirty))))

  pub record IsNextDirty (o : Option ℕ) : Type 0 where
    pub none : IfNone o ((card : ℕ) → from ≤ card → none_dirty card)
    pub dirty : IfSome o (λ card. is_dirty m.state card ≡ true)
    pub within : IfSome o (λ card. (from ≤ card) × (card < card_count m.state.table.layout))
    pub first : IfSome o (λ card. (earlier : ℕ) → from ≤ earlier → earlier < card → none_dirty earlier)

  pub next_is : (o : Option ℕ) → MatchOption o (HasNoDirty heap.marks from) (λ card. IsFirstDirty heap.marks from card) → IsNextDirty o
  next_is None h = record { none = λ card le. stays_clean card (h card le); dirty = tt; within = tt; first = tt }
  next_is (Some card) h = record {
    none = tt;
    dirty = ap (λ (m : Machine). is_dirty m.state card) (sym view) ∙ is_dirty_mark heap sets.pairs ring pending core.parts card h.dirty;
    within = (h.not_before, omega (arith, h.within, core.parts.cells.cards, ap (λ (m : Machine). card_count m.state.table.layout) view));
    first = λ earlier le lt. stays_clean earlier (h.first earlier le lt);
  }
