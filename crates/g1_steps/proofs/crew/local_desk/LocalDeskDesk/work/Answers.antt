use Rattle.g1_steps.specs.{rules}
use Rattle.g1_steps.proofs.{served_round}
use Rattle.g1_steps.proofs.crew.local_desk.LocalDeskDesk.work.Goals as goal

pub returns-clause-ok : goal.returns-clause-ok
returns-clause-ok g c = (served_round _ _ _ _ _ _ _ c.in_ok-reply.ensures.round.2, search rules, search rules, search rules)
