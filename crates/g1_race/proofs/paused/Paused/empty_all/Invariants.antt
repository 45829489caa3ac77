use Rattle.g1_race.specs.{take, EmptiesAll}
use Rattle.g1_race.proofs.paused.Paused.empty_all.Given as goal

abbrev pub invariant-loop-i : goal.invariant-loop-i
invariant-loop-i g l = EmptiesAll l.fn.self (take l.i l.regions) l.self
