use Rattle.std.proofs.Common.{◌≡◌}
use Rattle.g1_race.specs.Parties.{racer_race}
use Rattle.demo.proofs.racing.store_each.Given as goal

abbrev pub invariant-loop-turn : goal.invariant-loop-turn
invariant-loop-turn g l = racer_race l.racer ≡ racer_race l.fn.racer
