use Rattle.g1_trace.proofs.{keeps_appends}
use Rattle.g1_trace.proofs.output.write_some.Goals as goal

pub returns-in-Err-clause-failed : goal.returns-in-Err-clause-failed
returns-in-Err-clause-failed g c = keeps_appends _ _ c.in-Err.ensures.bytes
