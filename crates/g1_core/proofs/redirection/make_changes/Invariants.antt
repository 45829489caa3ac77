use Rattle.std.specs.Prelude.{◌≡◌}
use Rattle.g1_core.specs.{take, Cells, changed}
use Rattle.g1_core.proofs.redirection.make_changes.Given as goal

abbrev pub invariant-loop-change : goal.invariant-loop-change
invariant-loop-change l = let now : Cells = record { layout = l.fn.heap.layout; refs = changed l.fn.heap.refs (take l.change-index l.changes); marks = l.fn.heap.marks; reads = l.fn.heap.reads } in l.heap ≡ now
