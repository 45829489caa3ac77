use Rattle.g1_trace.specs.{sym}
use Rattle.g1_trace.proofs.{target_null}
use Rattle.g1_trace.proofs.plain.target_before.Goals as goal

pub returns-then-is-clause-target : goal.returns-then-is-clause-target
returns-then-is-clause-target c =
    target_null c.args.bytes.now c.split_at.result.0.now c.split_at.result.1.now (sym c.if-is.ensures) c.split_at.ensures.by_index.0
