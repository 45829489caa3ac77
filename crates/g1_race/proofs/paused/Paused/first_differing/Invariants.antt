use Rattle.std.specs.Prelude.{◌≡◌, ◌+◌, ◌<◌}
use Rattle.g1_race.specs.{ℕ, map, Differs, table_at}
use Rattle.g1_race.proofs.paused.Paused.first_differing.Given as goal

abbrev pub invariant-loop-i : goal.invariant-loop-i
invariant-loop-i g l = record {
  none : (k : ℕ) → k < l.i → Differs (table_at l.fn.self) l.first (map g.M.Reference.place l.memory) (l.first + k) → ⊥;
  same : l.self ≡ l.fn.self;
}
