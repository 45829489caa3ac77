use Rattle.std.proofs.Common.{◌<◌}
use Rattle.gate_bench.proofs.race_calls.pause.Given as goal

abbrev pub invariant-loop-drain : goal.invariant-loop-drain
invariant-loop-drain l = l.region < l.paused.layout.regions
