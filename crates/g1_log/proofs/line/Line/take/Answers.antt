use Rattle.g1_log.proofs.Taking.{takes}
use Rattle.g1_log.proofs.{learns}
use Rattle.g1_log.proofs.line.Line.take.Goals as goal

pub pop_as-requires-clause-rule : goal.pop_as-requires-clause-rule
pop_as-requires-clause-rule g c = (takes _ _ c.args.taker.now.role, learns _ _ c.args.taker.now.role.known)
