-- The barrier.
use Rattle.std.specs.Prelude.{◌≡◌, ◌≢◌, ◌<◌, ◌≤◌, ◌+◌, ◌↔◌}
use Rattle.g1_core.specs.{DoesStore, unfilled, ◌∙◌, inl, inr, ℕ, Bool, false, cond, List, [], length, get_or, Option, Some, None, refl, sym, ap, subst, arith, IfSome, IsDistinct, cases_eq, true≢false, false_from_ne_true, length-set, All-set, Shape, slot_count, card_count, card_of, CardSet, PairSet, card_count_limit, Kind, SameRegion, AlreadyDirty, Logged, Mark, Clean, Dirty, Held, Cells, AreCells, with_ref, with_mark, Pairs, Ring, IsCovered, AreRefinable, refined, State, IsCore, AreParts, pending_of, table_from, state_from, machine_from, Store, IsStep, IsCallOf, kind_of, stored, pending_after, logged_card, StoreReply, store_entry, stored_machine, Contains, list_set}
use Rattle.g1_core.specs.Machine.{Machine, Settings, Table}
use Rattle.std.specs.FinSet as set
use Rattle.g1_core.proofs.TableLemmas.{stored_covered}
use Rattle.g1_core.proofs.MarkLemmas.{held_clean, dirty_clean, dirty_held, from_pending, to_pending, pending_marked, mark_here, mark_there, few_pending, one_more}
use Rattle.g1_core.proofs.RefinedLemmas.{refined_none}

-- a card is pending where its mark is not clean
pub clean_mark : (marks : List Mark) (card : ℕ) → get_or marks card Clean ≡ Clean → set.contains (pending_of marks) card ≡ false
clean_mark marks card e = false_from_ne_true _ (λ h. from_pending marks card h e)

pending_plain : (kind : Kind) (pending : CardSet) (card : ℕ) → kind ≢ Logged → pending_after kind pending card ≡ pending
pending_plain kind pending card ne = grind arith

-- what a store returns that is logged, and what another one does
pub logged_some : (kind : Kind) (card on : ℕ) → Some card ≡ logged_card kind on → (kind ≡ Logged) × (card ≡ on)
logged_some kind card on e = grind arith

pub logged_none : (kind : Kind) (on : ℕ) → None ≡ logged_card kind on → kind ≢ Logged
logged_none kind on e = grind arith

logged_if : (a b : Bool) → cond a SameRegion (cond b AlreadyDirty Logged) ≡ Logged → b ≡ false
logged_if a b e = grind arith

logged_new : (t : Table) (slot : ℕ) (target : Option ℕ) → kind_of t slot target ≡ Logged → set.contains t.pending (card_of t.layout slot) ≡ false
logged_new t slot None e = cc
logged_new t slot (Some place) e = logged_if _ _ e

module _ (heap : Cells) (pairs : PairSet) (ring : Ring) (pending : ℕ) (parts : AreParts heap pairs ring pending) (slot : ℕ) (target : Option ℕ) (kind : Kind) (kind_is : kind ≡ kind_of (table_from heap pairs) slot target) (fits : IfSome target (λ place. place < slot_count heap.layout)) where
  abbrev t : Table
  t = table_from heap pairs

  pub plain_state : kind ≢ Logged → state_from (with_ref heap slot target) pairs ring ≡ record { table = stored t slot target; ring = ring }
  plain_state ne =
      let same : pending_of heap.marks ≡ pending_after (kind_of t slot target) (pending_of heap.marks) (card_of heap.layout slot) = rw (← kind_is, pending_plain kind (pending_of heap.marks) (card_of heap.layout slot) ne) refl in
      λ i. record { table = record { layout = heap.layout; refs = list_set heap.refs slot target; pending = same i; recorded = pairs }; ring = ring }

  written_cells : AreCells (with_ref heap slot target)
  written_cells = record {
    shape = parts.cells.shape;
    slots = length-set heap.refs slot target ∙ parts.cells.slots;
    places = All-set (λ o. IfSome o (λ place. place < slot_count heap.layout)) heap.refs slot target fits parts.cells.places;
    cards = parts.cells.cards;
  }

  pub plain_parts : kind ≢ Logged → AreParts (with_ref heap slot target) pairs ring pending
  plain_parts ne =
      let cover : IsCovered (table_from (with_ref heap slot target) pairs) = subst IsCovered (sym (ap (λ (s : State). s.table) (plain_state ne))) (stored_covered t slot target parts.cover) in
      search (written_cells, cover)

  module _ (logged : kind ≡ Logged) (card : ℕ) (on_card : card ≡ card_of heap.layout slot) (within : card < card_count heap.layout) (pending' : ℕ) (more : pending' ≡ pending + 1) where
    inside : card < length heap.marks
    inside = omega (arith, parts.cells.cards)

    new_card : set.contains (pending_of heap.marks) card ≡ false
    new_card = ap (set.contains (pending_of heap.marks)) on_card ∙ logged_new t slot target (sym kind_is ∙ logged)

    not_held : get_or heap.marks card Clean ≡ Held → ⊥
    not_held held = true≢false (sym (to_pending heap.marks card (held_clean (get_or heap.marks card Clean) held)) ∙ new_card)

    marked : pending_of (list_set heap.marks card Dirty) ≡ set.insert (pending_of heap.marks) card
    marked = pending_marked heap.marks card Dirty inside (dirty_clean Dirty refl)

    pub logged_state : state_from (with_mark (with_ref heap slot target) card Dirty) pairs ring ≡ record { table = stored t slot target; ring = ring }
    logged_state =
        let dirty : pending_of (list_set heap.marks card Dirty) ≡ pending_after (kind_of t slot target) (pending_of heap.marks) (card_of heap.layout slot) = rw (marked, on_card, ← kind_is, logged) refl in
        λ i. record { table = record { layout = heap.layout; refs = list_set heap.refs slot target; pending = dirty i; recorded = pairs }; ring = ring }

    pub logged_parts : AreParts (with_mark (with_ref heap slot target) card Dirty) pairs ring pending'
    logged_parts =
        let cells : AreCells (with_mark (with_ref heap slot target) card Dirty) = record { shape = written_cells.shape; slots = written_cells.slots; places = written_cells.places; cards = length-set heap.marks card Dirty ∙ written_cells.cards } in
        let held : (q : ℕ) → Contains ring.cards q ↔ (get_or (list_set heap.marks card Dirty) q Clean ≡ Held) = λ q. elim (cases_eq q card) [
          | inl is ↦ (λ c. absurd (not_held (ap (λ (k : ℕ). get_or heap.marks k Clean) (sym is) ∙ (parts.held q).0 c)), λ h. absurd (dirty_held _ (ap (λ (k : ℕ). get_or (list_set heap.marks card Dirty) k Clean) is ∙ mark_here heap.marks card Dirty inside) h))
          | inr ne ↦ rw (mark_there heap.marks card Dirty inside q ne) (parts.held q)
        ] in
        let known : pending' ≡ set.len (pending_of (list_set heap.marks card Dirty)) = more ∙ ap (λ n. n + 1) parts.known ∙ sym (one_more (pending_of heap.marks) card new_card) ∙ ap set.len (sym marked) in
        let cover : IsCovered (table_from (with_mark (with_ref heap slot target) card Dirty) pairs) = subst IsCovered (sym (ap (λ (s : State). s.table) logged_state)) (stored_covered t slot target parts.cover) in
        search (cells, held, known, cover)

pub none_refinable : (t : Table) → AreRefinable t []
unfolding IsDistinct
none_refinable t = record { distinct = tt; pending = λ k d lt. absurd (omega arith) }

pub stored_step : (caller : ℕ) (old new : Machine) (slot : ℕ) (target : Option ℕ) (reply : StoreReply) → DoesStore slot target reply old new → IsCallOf old.state.table.layout (Store slot target) → IsStep old.state.table (store_entry caller slot target reply) new.state.table
stored_step caller old new slot target reply did numbers =
    let after : Table = stored old.state.table slot target in
    record {
      allowed = record { numbers = numbers; refines = rw did.refined (none_refinable after); answers = (did.kind, λ _. did.refined) };
      after = ap (λ (m : Machine). m.state.table) did.machine ∙ sym (ap (λ (ks : List ℕ). refined ks after) did.refined ∙ refined_none after);
    }

-- What a store leaves.
pub record IsStored (heap' : Cells) (sets : Pairs) (ring : Ring) (pending' : ℕ) (settings : Settings) (m : Machine) (slot : ℕ) (target : Option ℕ) (kind : Kind) : Type 0 where
  pub core : IsCore heap' sets ring pending'
  pub did : DoesStore slot target (unfilled kind) m (machine_from heap' sets.pairs ring settings)

module _ (heap : Cells) (sets : Pairs) (ring : Ring) (pending : ℕ) (settings : Settings) (m : Machine) (core : IsCore heap sets ring pending) (view : machine_from heap sets.pairs ring settings ≡ m)
    (slot : ℕ) (target : Option ℕ) (kind : Kind) (kind_is : kind ≡ kind_of m.state.table slot target) (fits : IfSome target (λ place. place < slot_count m.state.table.layout)) where
  is : kind ≡ kind_of (table_from heap sets.pairs) slot target
  is = kind_is ∙ ap (λ (m : Machine). kind_of m.state.table slot target) (sym view)

  fit : IfSome target (λ place. place < slot_count heap.layout)
  fit = subst (λ (m : Machine). IfSome target (λ place. place < slot_count m.state.table.layout)) (sym view) fits

  did : (heap' : Cells) → heap'.reads ≡ heap.reads → state_from heap' sets.pairs ring ≡ record { table = stored (table_from heap sets.pairs) slot target; ring = ring } → DoesStore slot target (unfilled kind) m (machine_from heap' sets.pairs ring settings)
  did heap' reads state = record { kind = kind_is; refined = refl; short = refl; machine = (λ i. record { state = state i; settings = settings; reads = reads i }) ∙ ap (λ (m : Machine). stored_machine m slot target) view }

  pub plain_at : (heap' : Cells) → kind ≢ Logged → heap' ≡ with_ref heap slot target → IsStored heap' sets ring pending settings m slot target kind
  plain_at heap' plain eh = subst (λ h. IsStored h sets ring pending settings m slot target kind) (sym eh) (record {
    core = record { layouts = core.layouts; parts = plain_parts heap sets.pairs ring pending core.parts slot target kind is fit plain };
    did = did (with_ref heap slot target) refl (plain_state heap sets.pairs ring pending core.parts slot target kind is fit plain);
  })

  pub logged_at : (heap' : Cells) (pending' card : ℕ) (l : Shape) → kind ≡ Logged → l ≡ heap.layout → card ≡ card_of l slot → card < card_count l → pending' ≡ pending + 1
      → heap' ≡ with_mark (with_ref heap slot target) card Dirty → IsStored heap' sets ring pending' settings m slot target kind
  logged_at heap' pending' card l logged same on within more eh =
      let on_card : card ≡ card_of heap.layout slot = on ∙ ap (λ (l : Shape). card_of l slot) same in
      let below : card < card_count heap.layout = subst (λ (l : Shape). card < card_count l) same within in
      subst (λ h. IsStored h sets ring pending' settings m slot target kind) (sym eh) (record {
        core = record { layouts = core.layouts; parts = logged_parts heap sets.pairs ring pending core.parts slot target kind is fit logged card on_card below pending' more };
        did = did (with_mark (with_ref heap slot target) card Dirty) refl (logged_state heap sets.pairs ring pending core.parts slot target kind is fit logged card on_card below pending' more);
      })

-- one more card is pending, and there are few
pub few_cards : (heap : Cells) (sets : Pairs) (ring : Ring) (pending : ℕ) → IsCore heap sets ring pending → pending ≤ 16777216
few_cards heap sets ring pending core = omega (arith, few_pending heap.marks, core.parts.known, core.parts.cells.cards, card_count_limit heap.layout core.parts.cells.shape)
