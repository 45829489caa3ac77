use Rattle.g1_log.proofs.{puts, learns}
use Rattle.g1_log.proofs.line.Line.put.Goals as goal

pub push_as-requires-clause-rule : goal.push_as-requires-clause-rule
push_as-requires-clause-rule g c =
    (puts _ _ _ _ _ _ c.args.sender.now.role c.args.sender.now.count, learns _ _ c.args.sender.now.role.known)
