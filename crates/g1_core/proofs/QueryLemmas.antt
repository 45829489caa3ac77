-- What every core keeps and every call leaves, and that a question changes nothing.
use Rattle.std.specs.Prelude.{◌≡◌, ◌<◌, ◌≤◌}
use Rattle.g1_core.specs.{◌∙◌, ℕ, Option, sym, ap, subst, arith, Pairs, Cells, Ring, State, IsCore, IsPending, card_count, table_from, IsSound, IsLater, state_from, machine_from, Entry, IsStep, Kind, Bool, List, refl, All, slot_count, Status, target_of, AreMembers, target_entry, pending_entry, members_entry, status_entry}
use Rattle.g1_core.specs.Machine.{Machine, Settings, Table}
use Rattle.g1_core.proofs.RunLemmas.{layout_after}
use Rattle.g1_core.proofs.MarkLemmas.{from_pending, is_card}
use Rattle.g1_core.proofs.PartLemmas.{parts_placed}
use Rattle.g1_core.proofs.StoreLemmas.{IsStored, none_refinable}
use Rattle.g1_core.specs.Table.{Table}
use Rattle.std.specs.FinSet as set
use Rattle.g1_core.proofs.RefinedLemmas.{refined_none}
use Rattle.g1_core.proofs.SetLemmas.{All_by_member}

module _ (heap : Cells) (sets : Pairs) (ring : Ring) (pending : ℕ) (core : IsCore heap sets ring pending) where
  pub core_sound : IsSound (state_from heap sets.pairs ring)
  core_sound =
      let inside : (card : ℕ) → IsPending (table_from heap sets.pairs) card → card < card_count heap.layout = λ card h. omega (arith, is_card heap.marks card (from_pending heap.marks card h), core.parts.cells.cards) in
      search (inside, parts_placed heap sets.pairs ring pending core.parts)

  -- of a machine that has kept its layout, its settings and its reads
  pub core_later : (settings : Settings) (old : Machine) → heap.layout ≡ old.state.table.layout → settings ≡ old.settings → heap.reads ≡ old.reads → IsLater old (machine_from heap sets.pairs ring settings)
  core_later settings old layout same reads = record { layout = layout; settings = same; sound = core_sound; reads = omega (arith, reads) }

  -- of the core itself
  pub seen_sound : (settings : Settings) (m : Machine) → machine_from heap sets.pairs ring settings ≡ m → IsSound m.state
  seen_sound settings m view = subst (λ (m : Machine). IsSound m.state) view core_sound

-- of a store
pub stored_later : (heap : Cells) (sets : Pairs) (ring : Ring) (pending : ℕ) (settings : Settings) (m : Machine) (slot : ℕ) (target : Option ℕ) (kind : Kind) → IsStored heap sets ring pending settings m slot target kind → IsLater m (machine_from heap sets.pairs ring settings)
stored_later heap sets ring pending settings m slot target kind t =
    core_later heap sets ring pending t.core settings m (ap (λ (m : Machine). m.state.table.layout) t.did.machine) (ap (λ (m : Machine). m.settings) t.did.machine) (ap (λ (m : Machine). m.reads) t.did.machine)

-- of a step of the plain table
pub step_later : (old new : Machine) (e : Entry) → IsStep old.state.table e new.state.table → new.settings ≡ old.settings → IsSound new.state → old.reads ≤ new.reads → IsLater old new
step_later old new e step settings sound reads = record { layout = ap (λ (t : Table). t.layout) step.after ∙ layout_after old.state.table e; settings = settings; sound = sound; reads = reads }

-- where the state stayed
pub same_later : (old new : Machine) → new.state ≡ old.state → new.settings ≡ old.settings → IsSound old.state → old.reads ≤ new.reads → IsLater old new
same_later old new state settings sound reads = record { layout = ap (λ (s : State). s.table.layout) state; settings = settings; sound = subst IsSound (sym state) sound; reads = reads }

module _ (caller : ℕ) (t : Table) where
  pub target_step : (slot : ℕ) (target : Option ℕ) → slot < slot_count t.layout → target ≡ target_of t slot → IsStep t (target_entry caller slot target) t
  target_step slot target within is = record { allowed = record { numbers = within; refines = none_refinable t; answers = (refl, is) }; after = sym (refined_none t) }

  pub pending_step : (card : ℕ) (answer : Bool) → card < card_count t.layout → answer ≡ set.contains t.pending card → IsStep t (pending_entry caller card answer) t
  pending_step card answer within is = record { allowed = record { numbers = within; refines = none_refinable t; answers = (refl, is) }; after = sym (refined_none t) }

  pub members_step : (region : ℕ) (cards : List ℕ) → region < t.layout.regions → AreMembers t region cards → IsStep t (members_entry caller region cards) t
  members_step region cards within are = record { allowed = record { numbers = within; refines = none_refinable t; answers = (refl, are) }; after = sym (refined_none t) }

  pub status_step : (status : Status) → status.pending ≡ set.len t.pending → status.recorded ≡ set.len t.recorded → IsStep t (status_entry caller status) t
  status_step status pending recorded = record { allowed = record { numbers = tt; refines = none_refinable t; answers = (refl, pending, recorded) }; after = sym (refined_none t) }

-- what it answers lies in the heap
pub members_inside : (s : State) (region : ℕ) (cards : List ℕ) → IsSound s → AreMembers s.table region cards → All (λ card. card < card_count s.table.layout) cards
members_inside s region cards sound are = All_by_member (λ card. card < card_count s.table.layout) cards (λ card c. (sound.recorded card region (are.recorded card c)).0)
