use Rattle.std.specs.Prelude.{◌≡◌}
use Rattle.g1_steps.specs.{take, asks_of, IsAnswered, AreAnswered}
use Rattle.g1_steps.proofs.crew.worker.mutate.Given as goal

abbrev pub invariant-loop-step : goal.invariant-loop-step
invariant-loop-step g l = (l.made ≡ l.step-index) × g.D.Desk.did l.initial.desk (asks_of (take l.step-index l.steps)) l.desk
    × (g.D.Desk.slots l.desk ≡ g.D.Desk.slots l.initial.desk) × (g.D.Desk.may_store l.desk ≡ g.D.Desk.may_store l.initial.desk)
    × AreAnswered (IsAnswered g.D.Desk.stored g.D.Desk.flushed g.D.Desk.worked) l.initial.desk (asks_of (take l.step-index l.steps)) l.desk
