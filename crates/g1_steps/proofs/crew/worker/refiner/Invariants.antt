use Rattle.g1_steps.specs.{replicate, AskWork, IsAnswered, AreAnswered}
use Rattle.g1_steps.proofs.crew.worker.refiner.Given as goal

abbrev pub invariant-loop-made : goal.invariant-loop-made
invariant-loop-made g l = g.D.Desk.did l.initial.desk (replicate l.made AskWork) l.desk
    × AreAnswered (IsAnswered g.D.Desk.stored g.D.Desk.flushed g.D.Desk.worked) l.initial.desk (replicate l.made AskWork) l.desk
