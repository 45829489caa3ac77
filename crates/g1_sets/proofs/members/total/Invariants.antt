use Rattle.std.specs.Prelude.{◌≡◌}
use Rattle.g1_sets.specs.{take, length, sum_by, lists_of}
use Rattle.g1_sets.proofs.members.total.Given as goal

abbrev pub invariant-loop-members : goal.invariant-loop-members
invariant-loop-members l = l.total ≡ sum_by length (take l.members-index (lists_of l.sets))
