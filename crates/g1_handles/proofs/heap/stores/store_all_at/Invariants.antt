-- The first i stores were made.
use Rattle.g1_handles.specs.{take, StoresAllAt}
use Rattle.g1_handles.proofs.heap.stores.store_all_at.Given as goal

abbrev pub invariant-loop-i : goal.invariant-loop-i
invariant-loop-i l = StoresAllAt l.initial.heap (take l.i l.stores) l.heap
