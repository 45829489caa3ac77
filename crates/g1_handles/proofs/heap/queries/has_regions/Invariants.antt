-- The heap has the first i regions.
use Rattle.std.specs.Prelude.{◌<◌}
use Rattle.g1_handles.specs.{All, take}
use Rattle.g1_handles.proofs.heap.queries.has_regions.Given as goal

abbrev pub invariant-loop-i : goal.invariant-loop-i
invariant-loop-i l = All (λ region. region < l.layout.regions) (take l.i l.regions)
