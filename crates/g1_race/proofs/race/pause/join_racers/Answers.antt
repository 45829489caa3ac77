-- The last racer's seat that is left is joined.
use Rattle.std.specs.Prelude.{◌-◌}
use Rattle.g1_race.specs.{ap, ◌∙◌, arith, map-set_same, Seat, View, Racer, racer_view, racer_log}
use Rattle.g1_race.proofs.{joined_next}
use Rattle.g1_race.proofs.race.pause.join_racers.Goals as goal

pub loop-left-preserved : goal.loop-left-preserved
loop-left-preserved c = record {
  joined = joined_next Racer racer_view c.args.racers.now.items c.loop-left.racers.items _ _ c.args.pause_seat.now c.loop-left.pause_seat c.join.new.seat c.loop-left.left c.index_mut-racer.result.now _ _ c.loop-left.invariant.joined (omega (arith, c.loop-left-test.true)) (omega (arith, c.args.racers.now.ok.0))
      c.index_mut-racer.ensures.value (ap (λ (s : Seat (Unit {0}) View). s.me.0) c.replace-seat.ensures.value) c.join.ensures.table c.join.ensures.view;
  logs = map-set_same racer_log c.loop-left.racers.items (c.loop-left.left - 1) _ c.index_mut-racer.result.now (ap racer_log c.index_mut-racer.ensures.value) ∙ c.loop-left.invariant.logs;
}
