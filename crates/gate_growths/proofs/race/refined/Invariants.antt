use Rattle.std.proofs.Common.{◌≡◌}
use Rattle.g1_race.specs.Parties.{sweeper_race}
use Rattle.gate_growths.proofs.race.refined.Given as goal

abbrev pub invariant-loop-number : goal.invariant-loop-number
invariant-loop-number l = sweeper_race l.sweeper ≡ sweeper_race l.fn.sweeper
