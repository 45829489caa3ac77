use Rattle.std.specs.Prelude.{◌≡◌}
use Rattle.g1_race.specs.{[], replicate, map, vec_len, racer_log}
use Rattle.g1_race.proofs.paused.open.vacant_racers.Given as goal

abbrev pub invariant-loop-i : goal.invariant-loop-i
invariant-loop-i l = record {
  logs : map racer_log l.racers.items ≡ replicate l._i [];
  len : vec_len l.racers ≡ l._i;
}
