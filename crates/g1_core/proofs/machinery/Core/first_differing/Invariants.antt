use Rattle.std.specs.Prelude.{◌≡◌, ◌+◌, ◌<◌}
use Rattle.g1_core.specs.{ℕ, map, IsOnlyRead, reads_after, Differs}
use Rattle.g1_core.proofs.machinery.Core.first_differing.Given as goal

abbrev pub invariant-loop-i : goal.invariant-loop-i
invariant-loop-i g l = record {
  none : (k : ℕ) → k < l.i → Differs l.fn.self.state.table l.first (map g.M.Reference.place l.memory) (l.first + k) → ⊥;
  read : IsOnlyRead l.fn.self l.self;
  reads : l.self.reads ≡ reads_after l.fn.self.reads l.i;
}
