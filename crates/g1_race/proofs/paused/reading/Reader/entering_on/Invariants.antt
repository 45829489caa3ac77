use Rattle.std.specs.Prelude.{◌≡◌, ◌+◌, ◌*◌, ◌<◌}
use Rattle.g1_race.specs.{ℕ, Into}
use Rattle.g1_race.proofs.paused.reading.Reader.entering_on.Given as goal

abbrev pub invariant-loop-i : goal.invariant-loop-i
invariant-loop-i l = record {
  same : l.self ≡ l.fn.self;
  none : (j : ℕ) → j < l.i → Into l.race.shape l.fn.self.start.words l.region (l.card * l.race.shape.size + j) → ⊥;
}
