-- One store more.
use Rattle.g1_handles.specs.{refl, arith, common_steps, subst, slice_index_or, All-more, IsStoreOf, Shape}
use Rattle.g1_handles.specs.declared.one_core.batch.Store.{Store}
use Rattle.g1_handles.proofs.one_core.batch.store_all_in.Goals as goal

pub loop-i-preserved : goal.loop-i-preserved
loop-i-preserved c =
    let l = c.args.core.now.state.table.layout in
    let none : Store = record { slot = 0; target = 0 } in
    let s = slice_index_or c.args.stores.now c.loop-i.i none in (
      grind (arith, common_steps),
      grind (arith, common_steps),
      grind (arith, common_steps),
      All-more (λ (s : Store). IsStoreOf l s.slot s.target) c.args.stores.now c.loop-i.i none c.loop-i-test.true c.loop-i.invariant.3
          (subst (λ (l : Shape). IsStoreOf l s.slot s.target) c.loop-i.invariant.2 (c.in-Some.ensures.within refl)),
    )
