-- One store more.
use Rattle.g1_handles.specs.{arith, common_steps, subst, slice_index_or, All-more, IsStoreOf, Shape}
use Rattle.g1_handles.specs.declared.one_core.batch.Store.{Store}
use Rattle.g1_handles.proofs.heap.stores.store_all_at.Goals as goal

pub loop-i-preserved : goal.loop-i-preserved
loop-i-preserved c =
    let l = c.args.heap.now.layout in
    let none : Store = record { slot = 0; target = 0 } in
    let s = slice_index_or c.args.stores.now c.loop-i.i none in
    record {
      within = All-more (λ (s : Store). IsStoreOf l s.slot s.target) c.args.stores.now c.loop-i.i none c.loop-i-test.true c.loop-i.invariant.within
          (subst (λ (l : Shape). IsStoreOf l s.slot s.target) c.loop-i.invariant.race.layout (c.in-Ok.ensures.stored.0.step 0).allowed.numbers);
      race = grind (arith, common_steps);
      words = grind (arith, common_steps);
      table = grind (arith, common_steps);
    }
