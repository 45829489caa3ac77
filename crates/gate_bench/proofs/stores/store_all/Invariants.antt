use Rattle.std.proofs.Common.{◌≡◌}
use Rattle.gate_bench.proofs.stores.store_all.Given as goal

abbrev pub invariant-loop-slot : goal.invariant-loop-slot
invariant-loop-slot g l = g.B.Barrier.layout_of l.barrier ≡ l.layout
