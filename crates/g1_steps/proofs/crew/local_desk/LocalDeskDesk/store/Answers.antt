use Rattle.g1_steps.specs.{rules}
use Rattle.g1_steps.proofs.{served_store}
use Rattle.g1_steps.proofs.crew.local_desk.LocalDeskDesk.store.Goals as goal

pub returns-clause-ok : goal.returns-clause-ok
returns-clause-ok g c = (served_store _ _ _ _ _ _ _ c.in_ok-reply.ensures.stored, search rules, search rules, search rules)
