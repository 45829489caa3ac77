use Rattle.std.proofs.Common.{◌≡◌}
use Rattle.g1_race.specs.Parties.{racer_race}
use Rattle.test_machinery.proofs.races.in_threads.store_all.Given as goal

abbrev pub invariant-loop-turn : goal.invariant-loop-turn
invariant-loop-turn l = racer_race l.racer ≡ racer_race l.fn.racer
