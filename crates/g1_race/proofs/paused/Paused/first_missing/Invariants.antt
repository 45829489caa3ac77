use Rattle.std.specs.Prelude.{◌≡◌, ◌+◌, ◌<◌}
use Rattle.g1_race.specs.{ℕ, IsMissing, table_at}
use Rattle.g1_race.proofs.paused.Paused.first_missing.Given as goal

abbrev pub invariant-loop-i : goal.invariant-loop-i
invariant-loop-i g l = record {
  none : (k : ℕ) → k < l.i → IsMissing (table_at l.fn.self) (l.first + k) → ⊥;
  same : l.self ≡ l.fn.self;
}
