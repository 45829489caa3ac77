use Rattle.std.specs.Prelude.{◌+◌}
use Rattle.g1_race.specs.{first_of}
use Rattle.g1_race.proofs.{Copied}
use Rattle.g1_race.proofs.paused.Paused.copy_slots.Given as goal

abbrev pub invariant-loop-i : goal.invariant-loop-i
invariant-loop-i g l = Copied l.fn.self l.self (l.from + first_of l.upwards l.count l.i) (l.to + first_of l.upwards l.count l.i) l.i
