use Rattle.std.specs.Prelude.{◌≡◌}
use Rattle.g1_race.specs.{vec_len}
use Rattle.g1_race.proofs.paused.open.vacant_sweepers.Given as goal

abbrev pub invariant-loop-i : goal.invariant-loop-i
invariant-loop-i l = vec_len l.sweepers ≡ l._i
