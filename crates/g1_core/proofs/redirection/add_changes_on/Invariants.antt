use Rattle.std.specs.Prelude.{◌≡◌, ◌≤◌, ◌-◌, ◌*◌, ◌^◌, ◌++◌}
use Rattle.g1_core.specs.{range_with_len, AreRead, changes_of}
use Rattle.g1_core.proofs.redirection.add_changes_on.Given as goal

abbrev pub invariant-loop-next : goal.invariant-loop-next
invariant-loop-next l = record {
  within : l.offset ≤ l.fn.heap.layout.slots;
  read : AreRead l.fn.heap l.heap l.offset;
  bound : l.heap.reads ≤ 2 ^ 64 - 1;
  changes : l.changes.items ≡ l.fn.changes.items ++ changes_of l.fn.heap.layout l.fn.heap.refs l.from l.to (range_with_len (l.card * l.fn.heap.layout.slots) l.offset);
}

abbrev pub decreases-loop-next : goal.decreases-loop-next
decreases-loop-next l = l.fn.heap.layout.slots - l.offset
