-- The set of the table, as it is or as refinement leaves it.
use Rattle.std.specs.Prelude.{◌<◌}
use Rattle.g1_handles.specs.{ℕ, sym, subst, Shape, AreMembers, Pause, table_at, marked_cards, DrainsRegion, TellsMembers}
use Rattle.g1_core.proofs.QueryLemmas.{members_step}
use Rattle.g1_race.proofs.PauseTable.{drain_step, exact_is}
use Rattle.g1_handles.proofs.{tells_so}
use Rattle.g1_handles.proofs.heap.sets.set_at.Goals as goal

pub returns-in-Recorded-clause-called : goal.returns-in-Recorded-clause-called
returns-in-Recorded-clause-called c =
    let old : Pause = c.args.heap.now in
    let region = c.in_ok-region.region in
    let at = rw c.in_ok-region.ensures.ok_part at c.region.ensures in
    let below = subst (λ (l : Shape). c.args.region < l.regions) c.layout.ensures.value at.0 in
    let lt = subst (λ (r : ℕ). r < old.layout.regions) (sym at.1) below in
    rw c.in-Recorded.is (record {
      told = tells_so (AreMembers (table_at old) region) (TellsMembers (table_at old) c.args.region) c.args.cards.now c.write_set.result c.write_set.new.array
          (λ cs m. subst (λ (r : ℕ). TellsMembers (table_at old) r cs) at.1 (record { members = m; step = λ caller. members_step caller (table_at old) region cs lt m }))
          c.write_set.ensures.told;
      why = tt;
      refused = tt;
      same = λ _. c.write_set.ensures.same;
    })

pub returns-in-Refined-clause-called : goal.returns-in-Refined-clause-called
returns-in-Refined-clause-called c =
    let old : Pause = c.args.heap.now in
    let mid : Pause = c.refine_all.new.self in
    let new : Pause = c.write_set-in-Refined.new.heap in
    let region = c.in_ok-region.region in
    let done = marked_cards old.shape old.words in
    let at = rw c.in_ok-region.ensures.ok_part at c.region.ensures in
    let below = subst (λ (l : Shape). c.args.region < l.regions) c.layout.ensures.value at.0 in
    let lt = subst (λ (r : ℕ). r < old.layout.regions) (sym at.1) below in
    rw c.in-Refined.is (record {
      told = tells_so (AreMembers (table_at mid) region) (DrainsRegion old c.args.region new) c.args.cards.now c.write_set-in-Refined.result c.write_set-in-Refined.new.array
          (λ cs m. subst (λ (r : ℕ). DrainsRegion old r new cs) at.1
          (subst (λ (h : Pause). DrainsRegion old region h cs) (sym c.write_set-in-Refined.ensures.same)
          (record {
            refines = c.refine_all.ensures.did;
            done = done;
            step = λ caller. drain_step (table_at old) (table_at mid) caller region cs done lt c.refine_all.ensures.did.refined m;
            exact = exact_is (table_at old) (table_at mid) region cs done c.refine_all.ensures.did.refined m;
          })))
          c.write_set-in-Refined.ensures.told;
      why = tt;
      refused = tt;
      same = λ e. absurd cc;
    })
