-- A clear is a step of the plain table: the set of a region has each card that enters it.
use Rattle.std.specs.Prelude.{◌≡◌, ◌<◌, ◌≤◌, ◌+◌, ◌*◌}
use Rattle.g1_core.specs.{◌∙◌, inl, inr, ℕ, eqb, List, [], length, Some, None, refl, sym, ap, subst, arith, Contains, nat_cmp, mul-le-mul_right, eq-eqb, and_from, true≢false, card_of, CardSet, PairSet, Cells, Pairs, AreTied, list_at, without, Ring, Enters, IsCovered, IsRecorded, AreOutside, IsCore, IsLater, AreParts, pending_of, table_from, state_from, machine_from, Clear, IsFirstInto, IsStep, Answers, settled, ClearReply, clear_entry, DoesClear, member_count, IsLeastOn, AreRead, and_parts}
use Rattle.g1_core.specs.Machine.{Machine, Settings, Table}
use Rattle.std.specs.FinSet as set
use Rattle.g1_core.specs.declared.entry.Reply.TheVariants as reply
use Rattle.g1_core.specs.declared.reply.ClearReply.TheVariants as clear_reply
use Rattle.g1_core.proofs.SetLemmas.{pair_total, pair_exact, few_distinct}
use Rattle.g1_core.proofs.RunLemmas.{has_slots, step_covered, forgotten}
use Rattle.g1_core.proofs.MarkLemmas.{none_of}
use Rattle.g1_core.proofs.RefinedLemmas.{refined_none}
use Rattle.g1_core.proofs.StoreLemmas.{none_refinable}
use Rattle.g1_core.proofs.LeastSlotLemmas.{read_table}
use Rattle.g1_core.proofs.ChangeLemmas.{read_core}
use Rattle.g1_core.proofs.QueryLemmas.{core_sound, core_later, same_later, step_later}

-- how many slots are read for the members of a region
pub few_read : (sets : Pairs) (heap now : Cells) (region : ℕ) → AreTied sets → AreRead heap now (length (list_at sets.lists region) * heap.layout.slots) → now.reads ≤ heap.reads + member_count (table_from heap sets.pairs) region * heap.layout.slots
few_read sets heap now region tied read =
    let few : length (list_at sets.lists region) ≤ member_count (table_from heap sets.pairs) region = few_distinct pair_total pair_exact (λ (card : ℕ). (card, region)) (λ a b. ap (λ (p : ℕ × ℕ). p.0)) (list_at sets.lists region) (set.retain sets.pairs (λ pair. eqb pair.1 region)) (tied.lists.distinct region) (λ card c.
    set.contains-retain sets.pairs (λ pair. eqb pair.1 region) (card, region) (λ x e. ap (λ (q : ℕ × ℕ). eqb q.1 region) (sym (pair_exact (card, region) x e)))
    ∙ and_from _ _ ((tied.members card region).0 c) (eq-eqb region region refl)) in
    omega (arith, read.few, mul-le-mul_right heap.layout.slots few)

-- where nothing is pending, cover has the card of each slot that enters the region recorded
module _ (t : Table) (region : ℕ) (cards : List ℕ) (none : t.pending ≡ set.empty) (cover : IsCovered t) (recorded : (card : ℕ) → IsRecorded t card region → Contains cards card) where
  pub met : (slot : ℕ) → Enters t slot region → Contains cards (card_of t.layout slot)
  met slot e = recorded (card_of t.layout slot) (elim (cover slot e.place (record { refers = e.refers; across = λ same. e.outside (same ∙ e.into) })) [
    | inl p ↦ absurd (true≢false (sym p ∙ ap (λ (s : CardSet). set.contains s (card_of t.layout slot)) none ∙ set.contains-empty nat_cmp (card_of t.layout slot)))
    | inr r ↦ subst (λ (q : ℕ). IsRecorded t (card_of t.layout slot) q) e.into r
  ])

  pub none_enters : IsLeastOn t cards region None → (slot : ℕ) → Enters t slot region → ⊥
  none_enters least slot e = least slot (met slot e) e

  pub first_enters : (slot : ℕ) → IsLeastOn t cards region (Some slot) → IsFirstInto t region slot
  first_enters slot least = record { enters = least.0; least = λ other e. least.1 other (met other e) e }

-- the step of a clear
pub clear_step : (caller : ℕ) (t new : Table) (region : ℕ) (answer : ClearReply) → region < t.layout.regions → ((after : Table) → Answers t (Clear region) (reply.Clear answer) [] after) → new ≡ settled (Clear region) (reply.Clear answer) t
    → IsStep t (clear_entry caller region answer) new
clear_step caller t new region answer numbers answers after = record {
  allowed = record { numbers = numbers; refines = none_refinable t; answers = answers _ };
  after = after ∙ sym (ap (settled (Clear region) (reply.Clear answer)) (refined_none t));
}

-- what a clear does
pub record IsClearedTo (old : Machine) (region : ℕ) (answer : ClearReply) (new : Machine) : Type 0 where
  pub did : DoesClear region answer old new
  pub step : (caller : ℕ) → IsStep old.state.table (clear_entry caller region answer) new.state.table
  pub later : IsLater old new

-- of the machine that a core stands for
module _ (heap : Cells) (sets : Pairs) (ring : Ring) (pending : ℕ) (settings : Settings) (machine : Machine) (core : IsCore heap sets ring pending) (view : machine_from heap sets.pairs ring settings ≡ machine) (region : ℕ) (within : region < machine.state.table.layout.regions) where
  abbrev t : Table
  t = table_from heap sets.pairs

  abbrev m : Machine
  m = machine_from heap sets.pairs ring settings

  inside : region < heap.layout.regions
  inside = rw (← view) at within

  seen : (answer : ClearReply) (new : Machine) → IsClearedTo m region answer new → IsClearedTo machine region answer new
  seen answer new = subst (λ (m : Machine). IsClearedTo m region answer new) view

  -- some cards are pending
  pub pending_at : 0 < pending → IsClearedTo machine region (clear_reply.Pending pending) machine
  pending_at some = subst (λ (m : Machine). IsClearedTo m region (clear_reply.Pending pending) m) view (record {
    did = record { refused = λ _. record { state = refl; settings = refl; reads = omega arith }; ring = refl; unread = λ _. refl; reads = omega arith };
    step = λ caller. clear_step caller t t region (clear_reply.Pending pending) inside (λ after. (refl, core.parts.known, omega arith)) refl;
    later = core_later heap sets ring pending core settings m refl refl refl;
  })

  module _ (now : Cells) (nothing : pending ≤ 0) (tied : AreTied sets) (read : AreRead heap now (length (list_at sets.lists region) * heap.layout.slots)) where
    empty : pending_of heap.marks ≡ set.empty
    empty = none_of (pending_of heap.marks) (omega (arith, core.parts.known))

    contradicted : 1 ≤ set.len (pending_of heap.marks) → now.reads ≡ heap.reads
    contradicted some = absurd (omega (arith, core.parts.known))

    recorded : (card : ℕ) → IsRecorded t card region → Contains (list_at sets.lists region) card
    recorded card r = (tied.members card region).1 r

    kept : IsCore now sets ring pending
    kept = read_core heap now sets ring pending _ core read

    -- a slot still enters the region
    pub entered_at : (slot : ℕ) → IsLeastOn t (list_at sets.lists region) region (Some slot) → IsClearedTo machine region (clear_reply.StillReferenced slot) (machine_from now sets.pairs ring settings)
    entered_at slot least =
        let same : state_from now sets.pairs ring ≡ m.state = ap (λ (h : Cells). state_from h sets.pairs ring) read.cells in
        seen (clear_reply.StillReferenced slot) (machine_from now sets.pairs ring settings) (record {
          did = record { refused = λ _. record { state = same; settings = refl; reads = read.grown }; ring = refl; unread = contradicted; reads = few_read sets heap now region tied read };
          step = λ caller. clear_step caller t (table_from now sets.pairs) region (clear_reply.StillReferenced slot) inside (λ after. (refl, empty, first_enters t region (list_at sets.lists region) empty core.parts.cover recorded slot least)) (read_table heap now _ sets.pairs read);
          later = same_later m (machine_from now sets.pairs ring settings) same refl (core_sound heap sets ring pending core) read.grown;
        })

    -- the region's set is emptied
    module _ (sets' : Pairs) (layout : sets'.layout ≡ sets.layout) (pairs : sets'.pairs ≡ without sets.pairs region) (least : IsLeastOn t (list_at sets.lists region) region None) where
      cleared_table : table_from now sets'.pairs ≡ settled (Clear region) (reply.Clear clear_reply.Cleared) t
      cleared_table = read_table heap now _ sets'.pairs read ∙ ap (λ (ps : PairSet). table_from heap ps) pairs

      cleared_step : (caller : ℕ) → IsStep t (clear_entry caller region clear_reply.Cleared) (table_from now sets'.pairs)
      cleared_step caller = clear_step caller t (table_from now sets'.pairs) region clear_reply.Cleared inside (λ after. (refl, empty, none_enters t region (list_at sets.lists region) empty core.parts.cover recorded least)) cleared_table

      pub cleared_core : IsCore now sets' ring pending
      cleared_core =
          let cover : IsCovered (table_from now sets'.pairs) = subst IsCovered (sym (cleared_step 0).after) (step_covered t (clear_entry 0 region clear_reply.Cleared) (has_slots heap.layout core.parts.cells.shape) (cleared_step 0).allowed core.parts.cover) in
          let outside : AreOutside (table_from now sets'.pairs) = subst AreOutside (sym cleared_table) (λ card other r. core.parts.outside card other (and_parts _ _ (sym (forgotten t.recorded region (card, other)) ∙ r)).0) in
          let parts : AreParts now sets.pairs ring pending = kept.parts in
          record { layouts = layout ∙ kept.layouts; parts = search (parts, cover, outside) }

      pub granted_at : IsClearedTo machine region clear_reply.Cleared (machine_from now sets'.pairs ring settings)
      granted_at = seen clear_reply.Cleared (machine_from now sets'.pairs ring settings) (record {
        did = record { refused = λ not. absurd (not refl); ring = refl; unread = contradicted; reads = few_read sets heap now region tied read };
        step = cleared_step;
        later = step_later m (machine_from now sets'.pairs ring settings) (clear_entry 0 region clear_reply.Cleared) (cleared_step 0) refl (core_sound now sets' ring pending cleared_core) read.grown;
      })
