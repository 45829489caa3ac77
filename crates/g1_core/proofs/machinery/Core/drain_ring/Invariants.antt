use Rattle.std.specs.Prelude.{◌≤◌, ◌+◌}
use Rattle.g1_core.specs.{length, vec_len, vec_capacity, IsRingDrained}
use Rattle.std.specs.FinSet as set
use Rattle.g1_core.proofs.machinery.Core.drain_ring.Given as goal

abbrev pub invariant-loop-self : goal.invariant-loop-self
invariant-loop-self l = record {
  drained : IsRingDrained l.initial.self l.refined.items (length l.refined.items) l.self;
  room : vec_len l.refined + set.len l.self.state.table.pending ≤ vec_capacity l.refined;
}

abbrev pub decreases-loop-self : goal.decreases-loop-self
decreases-loop-self l = length l.self.state.ring.cards
