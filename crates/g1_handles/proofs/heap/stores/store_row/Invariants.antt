-- The first i words were stored.
use Rattle.g1_handles.specs.{take, StoresWordsAt}
use Rattle.g1_handles.proofs.heap.stores.store_row.Given as goal

abbrev pub invariant-loop-i : goal.invariant-loop-i
invariant-loop-i l = StoresWordsAt l.initial.heap l.first (take l.i l.words) l.heap
