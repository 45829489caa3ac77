use Rattle.g1_race.specs.{ap, arith, start_of}
use Rattle.g1_race.proofs.paused.resume.seat_sweepers.Goals as goal

pub split_sweeper-seat-requires-clause-whole : goal.split_sweeper-seat-requires-clause-whole
split_sweeper-seat-requires-clause-whole c =
    let i = c.loop-i.invariant in
    (start_of c.args.pause_seat.now.me.0, _, ap (λ me. me.0) i.view, omega (arith, c.requires.weight, c.loop-i-test.true))
