use Rattle.std.proofs.Common.{◌≡◌}
use Rattle.g1_race.specs.Parties.{sweeper_race}
use Rattle.demo.proofs.racing.refine_each.Given as goal

abbrev pub invariant-loop-buffer : goal.invariant-loop-buffer
invariant-loop-buffer g l = sweeper_race l.sweeper ≡ sweeper_race l.fn.sweeper
