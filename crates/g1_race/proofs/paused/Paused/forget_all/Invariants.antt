use Rattle.g1_race.specs.{take, ForgetsAll}
use Rattle.g1_race.proofs.paused.Paused.forget_all.Given as goal

abbrev pub invariant-loop-i : goal.invariant-loop-i
invariant-loop-i g l = ForgetsAll l.fn.self (take l.i l.regions) l.self
