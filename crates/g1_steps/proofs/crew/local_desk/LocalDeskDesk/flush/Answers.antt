use Rattle.g1_steps.specs.{rules}
use Rattle.g1_steps.proofs.{served_flush}
use Rattle.g1_steps.proofs.crew.local_desk.LocalDeskDesk.flush.Goals as goal

pub returns-clause-ok : goal.returns-clause-ok
returns-clause-ok g c = (served_flush _ _ _ _ _ (g.met.C.Calls.none _) c.flush.ensures.flushed, search rules, search rules, search rules)
