use Rattle.g1_log.proofs.{learns}
use Rattle.g1_log.proofs.line.Line.is_empty_for.Goals as goal

pub is_empty_as-requires-clause-rule : goal.is_empty_as-requires-clause-rule
is_empty_as-requires-clause-rule g = learns _ _ g.args.taker.now.role.known
