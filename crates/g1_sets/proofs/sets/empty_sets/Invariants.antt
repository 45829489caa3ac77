use Rattle.std.specs.Prelude.{◌≡◌}
use Rattle.g1_sets.specs.{[], replicate, lists_of}
use Rattle.g1_sets.proofs.sets.empty_sets.Given as goal

abbrev pub invariant-loop-region : goal.invariant-loop-region
invariant-loop-region l = lists_of l.sets.items ≡ replicate l._region []
