-- The redirect, whole and short, is a step of the plain table.
use Rattle.std.specs.Prelude.{◌≡◌, ◌≢◌, ◌<◌, ◌≤◌, ◌*◌}
use Rattle.g1_core.specs.{◌∙◌, ℕ, List, length, refl, sym, ap, subst, arith, All, enumerate_from, length-enumerate_from, count_by-le-length, slot_count, slot_count_limit, Change, IsCore, pending_of, table_from, state_from, machine_from, enters, moved_count, changes_of, slots_on, changed, AreGaining, IsMoved, AreMembersRead, Cells, Ring, Pairs, AreTied, list_at, of_region, without, AreRead}
use Rattle.g1_core.specs.Machine.{Machine, Settings}
use Rattle.std.specs.FinSet as set
use Rattle.g1_core.proofs.ClearLemmas.{few_read}
use Rattle.g1_core.proofs.ChangeLemmas.{read_core}
use Rattle.g1_core.proofs.ReferenceLemmas.{every_moved, slots_within, places_within, moved_core, moved_state, moved_reads}

-- a core after its references were moved
pub record IsMovedTo (m : Machine) (from to count : ℕ) (heap : Cells) (sets : Pairs) (ring : Ring) (pending : ℕ) (settings : Settings) : Type 0 where
  pub core : IsCore heap sets ring pending
  pub counted : count ≡ moved_count from m.state.table
  pub moved : IsMoved m from to count (machine_from heap sets.pairs ring settings)

module _ (heap : Cells) (sets : Pairs) (ring : Ring) (pending : ℕ) (settings : Settings) (machine : Machine) (core : IsCore heap sets ring pending) (view : machine_from heap sets.pairs ring settings ≡ machine)
    (from to : ℕ) (within : to < machine.state.table.layout.regions) (apart : from ≢ to) (nothing : machine.state.table.pending ≡ set.empty)
    (now : Cells) (tied : AreTied sets) (read : AreRead heap now (length (list_at sets.lists from) * heap.layout.slots)) where
  to_inside : to < heap.layout.regions
  to_inside = subst (λ (m : Machine). to < m.state.table.layout.regions) (sym view) within

  none_pending : pending_of heap.marks ≡ set.empty
  none_pending = subst (λ (m : Machine). m.state.table.pending ≡ set.empty) (sym view) nothing

  -- they are only read
  pub members_read : (sets' : Pairs) → sets' ≡ sets → AreMembersRead machine from (machine_from now sets'.pairs ring settings)
  members_read sets' same = subst (λ (s : Pairs). AreMembersRead machine from (machine_from now s.pairs ring settings)) (sym same)
      (subst (λ (m : Machine). AreMembersRead m from (machine_from now sets.pairs ring settings)) view (record { state = ap (λ (h : Cells). state_from h sets.pairs ring) read.cells; settings = refl; grown = read.grown; reads = few_read sets heap now from tied read }))

  pub members_core : (sets' : Pairs) → sets' ≡ sets → IsCore now sets' ring pending
  members_core sets' same = subst (λ (s : Pairs). IsCore now s ring pending) (sym same) (read_core heap now sets ring pending _ core read)

  module _ (references : List Change) (are : references ≡ changes_of heap.layout heap.refs from to (slots_on heap.layout (list_at sets.lists from))) where
    within_now : (at : Change → ℕ) → All (λ change. at change < slot_count heap.layout) (changes_of heap.layout heap.refs from to (slots_on heap.layout (list_at sets.lists from))) → All (λ change. at change < slot_count now.layout) references
    within_now at all = rw are (subst (λ (h : Cells). All (λ change. at change < slot_count h.layout) (changes_of heap.layout heap.refs from to (slots_on heap.layout (list_at sets.lists from)))) (sym read.cells) all)

    pub reference_slots : All (λ change. change.slot < slot_count now.layout) references
    reference_slots = within_now (λ change. change.slot) (slots_within heap sets ring pending core from to apart to_inside none_pending tied)

    pub reference_places : All (λ change. change.place < slot_count now.layout) references
    reference_places = within_now (λ change. change.place) (places_within heap sets ring pending core from to apart to_inside none_pending tied)

    counted_is : length references ≡ moved_count from (table_from heap sets.pairs)
    counted_is = ap (λ (cs : List Change). length cs) are ∙ (every_moved heap sets ring pending core from to apart to_inside none_pending tied).1

    pub few_references : length references ≤ 1073741824
    few_references = omega (arith, counted_is, count_by-le-length (enters heap.layout from) (enumerate_from 0 heap.refs), length-enumerate_from 0 heap.refs, core.parts.cells.slots, slot_count_limit heap.layout core.parts.cells.shape)

    pub moved_at : (gaining listed : List ℕ) (written : List Change) (heap' : Cells) (more sets' : Pairs) (count : ℕ) → AreGaining heap.layout heap.refs from to (list_at sets.lists from) gaining → listed ≡ gaining
        → more.layout ≡ sets.layout → more.pairs ≡ set.union sets.pairs (of_region listed to) → sets'.layout ≡ more.layout → sets'.pairs ≡ without more.pairs from
        → written ≡ references → (let h : Cells = record { layout = now.layout; refs = changed now.refs written; marks = now.marks; reads = now.reads } in heap' ≡ h) → count ≡ length references
        → IsMovedTo machine from to count heap' sets' ring pending settings
    moved_at gaining listed written heap' more sets' count gains gaining_is more_layout more_pairs layout pairs written_is heap_is count_is =
        let all : List Change = changes_of heap.layout heap.refs from to (slots_on heap.layout (list_at sets.lists from)) in
        let h : Cells = record { layout = now.layout; refs = changed now.refs all; marks = now.marks; reads = now.reads } in
        let eh : heap' ≡ h = rw (heap_is, written_is, are) refl in
        let ep : sets'.pairs ≡ without (set.union sets.pairs (of_region gaining to)) from = rw (pairs, more_pairs, gaining_is) refl in
        let reads : heap'.reads ≡ now.reads = moved_reads heap sets ring pending core from to apart to_inside none_pending tied gaining gains now heap' sets' _ read (layout ∙ more_layout) ep eh in
        subst (λ (m : Machine). IsMovedTo m from to count heap' sets' ring pending settings) view (record {
          core = moved_core heap sets ring pending core from to apart to_inside none_pending tied gaining gains now heap' sets' _ read (layout ∙ more_layout) ep eh;
          counted = count_is ∙ counted_is;
          moved = record {
            state = moved_state heap sets ring pending core from to apart to_inside none_pending tied gaining gains now heap' sets' _ read (layout ∙ more_layout) ep eh;
            settings = refl;
            grown = omega (arith, reads, read.grown);
            reads = omega (arith, reads, few_read sets heap now from tied read);
          };
        })
