-- The last sweeper's seat that is left is joined.
use Rattle.g1_race.specs.{ap, arith, Seat, View, Sweeper, sweeper_view}
use Rattle.g1_race.proofs.{joined_next}
use Rattle.g1_race.proofs.race.pause.join_sweepers.Goals as goal

pub loop-left-preserved : goal.loop-left-preserved
loop-left-preserved c = record {
  joined = joined_next Sweeper sweeper_view c.args.sweepers.now.items c.loop-left.sweepers.items _ _ c.args.pause_seat.now c.loop-left.pause_seat c.join.new.seat c.loop-left.left c.index_mut-sweeper.result.now _ _ c.loop-left.invariant.joined (omega (arith, c.loop-left-test.true)) (omega (arith, c.args.sweepers.now.ok.0))
      c.index_mut-sweeper.ensures.value (ap (λ (s : Seat (Unit {0}) View). s.me.0) c.replace-seat.ensures.value) c.join.ensures.table c.join.ensures.view;
}
