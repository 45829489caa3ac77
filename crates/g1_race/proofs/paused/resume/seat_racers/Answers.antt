use Rattle.std.proofs.Common.{rules}
use Rattle.g1_race.specs.{length, ap, arith, map-set_same, AllWithin-more_set, start_of, racer_log}
use Rattle.g1_race.proofs.{after_split_is, new_racer_fresh, new_racer_of}
use Rattle.g1_race.proofs.paused.resume.seat_racers.Goals as goal

pub split_racer-seat-requires-clause-whole : goal.split_racer-seat-requires-clause-whole
split_racer-seat-requires-clause-whole c =
    let i = c.loop-i.invariant in
    (start_of c.args.pause_seat.now.me.0, _, ap (λ me. me.0) i.view, omega (arith, c.requires.weight, c.loop-i-test.true))

pub loop-i-preserved : goal.loop-i-preserved
loop-i-preserved c = search (rules, length, map-set_same, AllWithin-more_set, start_of, racer_log, after_split_is, new_racer_fresh, new_racer_of)
