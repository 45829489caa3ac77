use Rattle.std.specs.Prelude.{◌≡◌}
use Rattle.g1_race.specs.{map, vec_len, Racer, racer_view, racer_log}
use Rattle.g1_race.proofs.{Joined}
use Rattle.g1_race.proofs.race.pause.join_racers.Given as goal

abbrev pub invariant-loop-left : goal.invariant-loop-left
invariant-loop-left l = record {
  joined : Joined Racer racer_view l.fn.racers.items l.racers.items (vec_len l.fn.racers) (vec_len l.racers) l.fn.pause_seat l.pause_seat l.left;
  logs : map racer_log l.racers.items ≡ map racer_log l.fn.racers.items;
}

abbrev pub decreases-loop-left : goal.decreases-loop-left
decreases-loop-left l = l.left
