use Rattle.std.proofs.Common.{◌≡◌}
use Rattle.gate_bench.proofs.core_calls.CoreCalls.refine.Given as goal

abbrev pub invariant-loop-slot : goal.invariant-loop-slot
invariant-loop-slot l = l.self.core.state.table.layout ≡ l.layout
