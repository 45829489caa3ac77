use Rattle.std.proofs.Common.{◌≡◌}
use Rattle.g1_race.specs.Parties.{sweeper_race}
use Rattle.demo.proofs.racing.refine_cards.Given as goal

abbrev pub invariant-loop-card : goal.invariant-loop-card
invariant-loop-card l = sweeper_race l.sweeper ≡ sweeper_race l.fn.sweeper
