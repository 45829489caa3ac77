use Rattle.std.proofs.Common.{◌≡◌}
use Rattle.g1_race.specs.Parties.{racer_race}
use Rattle.gate_growths.proofs.race.stored.Given as goal

abbrev pub invariant-loop-reference : goal.invariant-loop-reference
invariant-loop-reference g l = racer_race l.racer ≡ racer_race l.fn.racer
