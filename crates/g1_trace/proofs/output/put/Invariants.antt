use Rattle.std.specs.Prelude.{◌≡◌, ◌++◌}
use Rattle.g1_trace.specs.{ℕ, List, length, Appends}
use Rattle.g1_trace.proofs.output.put.Given as goal

-- what was written so far and what is left are all bytes
abbrev pub invariant-loop-rest : goal.invariant-loop-rest
invariant-loop-rest g l = (done : List ℕ) × Appends (g.W.Write.contents l.fn.output) (g.W.Write.contents l.output) done × (l.bytes ≡ done ++ l.rest)

abbrev pub decreases-loop-rest : goal.decreases-loop-rest
decreases-loop-rest g l = length l.rest
