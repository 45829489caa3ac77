use Rattle.std.specs.Prelude.{◌≤◌, ◌+◌, ◌-◌}
use Rattle.g1_core.specs.{vec_len, vec_capacity, card_count, IsDirtyDrained}
use Rattle.std.specs.FinSet as set
use Rattle.g1_core.proofs.machinery.Core.drain_dirty.Given as goal

abbrev pub invariant-loop-card : goal.invariant-loop-card
invariant-loop-card l = record {
  drained : IsDirtyDrained l.initial.self l.initial.refined.items l.refined.items l.from l.self;
  room : vec_len l.refined + set.len l.self.state.table.pending ≤ vec_capacity l.refined;
  within : l.from ≤ card_count l.self.state.table.layout;
}

abbrev pub decreases-loop-card : goal.decreases-loop-card
decreases-loop-card l = card_count l.self.state.table.layout - l.from
