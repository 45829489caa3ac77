use Rattle.g1_race.specs.{vec_len, Sweeper, sweeper_view}
use Rattle.g1_race.proofs.{Joined}
use Rattle.g1_race.proofs.race.pause.join_sweepers.Given as goal

abbrev pub invariant-loop-left : goal.invariant-loop-left
invariant-loop-left l = record {
  joined : Joined Sweeper sweeper_view l.fn.sweepers.items l.sweepers.items (vec_len l.fn.sweepers) (vec_len l.sweepers) l.fn.pause_seat l.pause_seat l.left;
}

abbrev pub decreases-loop-left : goal.decreases-loop-left
decreases-loop-left l = l.left
