-- The first i elements are the first i numbers, and the others are as they were.
use Rattle.std.specs.Prelude.{◌≡◌}
use Rattle.g1_handles.specs.{length, take, drop}
use Rattle.g1_handles.proofs.list.write_list.Given as goal

abbrev pub invariant-loop-i : goal.invariant-loop-i
invariant-loop-i l = (length l.array ≡ length l.initial.array) × (take l.i l.array ≡ take l.i l.cards) × (drop l.i l.array ≡ drop l.i l.initial.array)
