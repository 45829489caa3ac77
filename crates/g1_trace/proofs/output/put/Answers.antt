use Rattle.std.specs.Prelude.{◌++◌}
use Rattle.g1_trace.specs.{take, [], ◌∙◌, ap, sym, append-nil, Appends-trans}
use Rattle.g1_trace.proofs.{cut_at, puts_failed}
use Rattle.g1_trace.proofs.output.put.Goals as goal

pub loop-rest-preserved : goal.loop-rest-preserved
loop-rest-preserved g c =
    let inv = c.loop-rest.invariant in (
      inv.0 ++ take c.in_ok-taken.taken c.loop-rest.rest.now,
      Appends-trans _ _ _ _ _ inv.1 c.in_ok-taken.ensures.written,
      rw c.split_at.ensures.back (cut_at c.in_ok-taken.taken _ _ _ inv.2),
    )

pub returns-in_err-taken : goal.returns-in_err-taken
returns-in_err-taken g c =
    let inv = c.loop-rest.invariant in
    puts_failed _ _ c.from_residual.result c.args.bytes.now c.from_residual.ensures.0
    (inv.0 ++ [], c.loop-rest.rest.now, Appends-trans _ _ _ _ _ inv.1 c.in_err-taken.ensures.failed, inv.2 ∙ ap (λ l. l ++ c.loop-rest.rest.now) (sym (append-nil inv.0)))
