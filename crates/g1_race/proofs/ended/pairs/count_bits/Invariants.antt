use Rattle.std.specs.Prelude.{◌*◌, ◌≤◌}
use Rattle.g1_race.proofs.ended.pairs.count_bits.Given as goal

abbrev pub invariant-loop-i : goal.invariant-loop-i
invariant-loop-i l = l.count ≤ l.i * 64
