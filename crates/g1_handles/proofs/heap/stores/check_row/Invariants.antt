-- The first i words fit.
use Rattle.g1_handles.specs.{All, take, IsWordOf}
use Rattle.g1_handles.proofs.heap.stores.check_row.Given as goal

abbrev pub invariant-loop-i : goal.invariant-loop-i
invariant-loop-i l = All (IsWordOf l.layout) (take l.i l.words)
