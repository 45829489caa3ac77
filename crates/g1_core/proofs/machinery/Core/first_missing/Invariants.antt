use Rattle.std.specs.Prelude.{◌≡◌, ◌+◌, ◌<◌}
use Rattle.g1_core.specs.{ℕ, IsOnlyRead, reads_after, IsMissing}
use Rattle.g1_core.proofs.machinery.Core.first_missing.Given as goal

abbrev pub invariant-loop-i : goal.invariant-loop-i
invariant-loop-i l = record {
  none : (k : ℕ) → k < l.i → IsMissing l.fn.self.state.table (l.first + k) → ⊥;
  read : IsOnlyRead l.fn.self l.self;
  reads : l.self.reads ≡ reads_after l.fn.self.reads l.i;
}
