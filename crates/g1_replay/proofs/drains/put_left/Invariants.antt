use Rattle.std.specs.Prelude.{◌≡◌, ◌≤◌}
use Rattle.g1_replay.specs.{Ok, HasDrained, at}
use Rattle.g1_replay.proofs.drains.put_left.Given as goal

-- the heap is the same, and the regions so far were drained
abbrev pub invariant-loop-number : goal.invariant-loop-number
invariant-loop-number g l =
    (l.number ≤ l.layout.regions) × (g.D.Drains.draining.layout l.left ≡ l.layout)
    × HasDrained g.D.Drains.draining l.number l.stores (at l.fn.left (g.W.Write.contents l.fn.output)) (at l.left (g.W.Write.contents l.output)) (Ok tt)
