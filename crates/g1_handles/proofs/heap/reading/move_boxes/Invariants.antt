-- This many boxes have moved, none got lost, and all are of the race that they were of.
use Rattle.std.specs.Prelude.{◌≡◌, ◌+◌, ◌++◌, IsPermutation}
use Rattle.g1_handles.specs.{All, vec_len, vec_capacity, arc_value, Race}
use Rattle.g1_handles.proofs.heap.reading.move_boxes.Given as goal

abbrev pub invariant-loop-i : goal.invariant-loop-i
invariant-loop-i g l = record {
  from_count : vec_len l.from + l._i ≡ vec_len l.fn.from;
  to_count : vec_len l.to ≡ vec_len l.fn.to + l._i;
  from_room : vec_capacity l.from ≡ vec_capacity l.fn.from;
  to_room : vec_capacity l.to ≡ vec_capacity l.fn.to;
  same : IsPermutation (l.fn.to.items ++ l.fn.from.items) (l.to.items ++ l.from.items);
  waiting : (race : Race) → All (λ m. arc_value m.value.race ≡ race) l.fn.from.items → All (λ m. arc_value m.value.race ≡ race) l.fn.to.items
      → All (λ m. arc_value m.value.race ≡ race) l.from.items × All (λ m. arc_value m.value.race ≡ race) l.to.items;
}
