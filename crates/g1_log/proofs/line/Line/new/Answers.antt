use Rattle.g1_log.proofs.{forks_opens}
use Rattle.g1_log.proofs.line.Line.new.Goals as goal

pub another-requires-clause-rule : goal.another-requires-clause-rule
another-requires-clause-rule c = forks_opens _ _ c.in_ok-queue.ensures.2 c.in_ok-queue.ensures.3
