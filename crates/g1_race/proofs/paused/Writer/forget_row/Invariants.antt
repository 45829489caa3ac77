use Rattle.std.specs.Prelude.{◌≤◌, ◌-◌}
use Rattle.g1_race.specs.{AreUnset, Writes}
use Rattle.g1_race.proofs.{InRow}
use Rattle.g1_race.proofs.paused.Writer.forget_row.Given as goal

abbrev pub invariant-loop-card : goal.invariant-loop-card
invariant-loop-card l = record {
  low : l.first ≤ l.from;
  within : l.from ≤ l.end;
  unset : Writes l.fn.self l.self (λ heap old new. AreUnset heap old new (InRow l.region l.first l.from));
}

abbrev pub decreases-loop-card : goal.decreases-loop-card
decreases-loop-card l = l.end - l.from
