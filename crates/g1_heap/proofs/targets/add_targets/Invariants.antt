use Rattle.std.specs.Prelude.{◌≤◌, ◌*◌}
use Rattle.g1_heap.specs.{length, IsListedUpTo}
use Rattle.g1_heap.proofs.targets.add_targets.Given as goal

abbrev pub invariant-loop-group : goal.invariant-loop-group
invariant-loop-group l = record {
  room : length l.targets.items ≤ l.group * 8;
  listed : IsListedUpTo l.layout l.row l.initial.seen (l.group * 8) l.seen l.targets.items;
}
