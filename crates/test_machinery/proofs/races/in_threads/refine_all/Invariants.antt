use Rattle.std.proofs.Common.{◌≡◌}
use Rattle.g1_race.specs.Parties.{sweeper_race}
use Rattle.test_machinery.proofs.races.in_threads.refine_all.Given as goal

abbrev pub invariant-loop-step : goal.invariant-loop-step
invariant-loop-step l = sweeper_race l.sweeper ≡ sweeper_race l.fn.sweeper
