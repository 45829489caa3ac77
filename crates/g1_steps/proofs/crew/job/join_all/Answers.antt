use Rattle.std.specs.Prelude.{◌++◌}
use Rattle.g1_steps.specs.{arith, ap, sym, ◌∙◌, append_assoc, map-append}
use Rattle.g1_steps.proofs.{all_zip_push}
use Rattle.g1_steps.proofs.crew.job.join_all.Goals as goal

pub loop-handle-preserved : goal.loop-handle-preserved
loop-handle-preserved g c =
    let was = c.loop-handle.invariant in
    let steps = c.in-Some.ensures.steps in (
      append_assoc c.loop-handle.yielded _ _ ∙ ap (λ xs. c.loop-handle.yielded ++ xs) (sym steps.0) ∙ was.0,
      omega arith,
      omega arith,
      rw (c.push_reserved.ensures.items, map-append) (all_zip_push _ _ _ _ _ was.3 c.join.ensures.0),
      rw (c.push_reserved.ensures.items, map-append) (all_zip_push _ _ _ _ _ was.4 c.join.ensures.1),
    )
