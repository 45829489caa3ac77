use Rattle.std.specs.Prelude.{◌≡◌, ◌+◌, ◌*◌, ◌<◌}
use Rattle.g1_race.specs.{ℕ, EntersAny, table_at}
use Rattle.g1_race.proofs.paused.Paused.entering_any_on.Given as goal

abbrev pub invariant-loop-i : goal.invariant-loop-i
invariant-loop-i g l = record {
  same : l.self ≡ l.fn.self;
  none : (k : ℕ) → k < l.i → EntersAny (table_at l.fn.self) l.regions (l.card * l.fn.self.layout.slots + k) → ⊥;
}
