use Rattle.std.specs.Prelude.{◌≤◌, ◌+◌}
use Rattle.g1_heap.specs.{length, RegionSet, IsListedUpTo}
use Rattle.g1_heap.proofs.targets.add_each.Given as goal

abbrev pub invariant-loop-word : goal.invariant-loop-word
invariant-loop-word l = record {
  room : length l.targets.items ≤ l.from + l.word-index;
  listed : (known : RegionSet) → IsListedUpTo l.layout l.row known l.from l.fn.seen l.fn.targets.items → IsListedUpTo l.layout l.row known (l.from + l.word-index) l.seen l.targets.items;
}
