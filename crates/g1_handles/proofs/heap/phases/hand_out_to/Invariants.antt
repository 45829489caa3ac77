-- The handles from this one on have their roles, and the others' are still in the lists.
use Rattle.std.specs.Prelude.{◌≡◌, ◌<◌, ◌≤◌}
use Rattle.g1_handles.specs.{ℕ, All, Some, Box, length, map, slice_index_or, vec_len, vec_capacity, Global, arc_value, Race, Party, counts_of, role_in, BelongsTo, drop}
use Rattle.g1_handles.proofs.heap.phases.hand_out_to.Given as goal

abbrev pub invariant-loop-left : goal.invariant-loop-left
invariant-loop-left g l = record {
  sized : length l.handles ≡ length l.fn.handles;
  below : l.left ≤ length l.handles;
  boxes : vec_len l.boxes ≡ l.left;
  roles : vec_len l.roles ≡ l.left;
  box_rest : (k : ℕ) (d : Box (Party g.row.P.Denot g.P.Role) Global) → k < l.left → slice_index_or l.boxes.items k d ≡ slice_index_or l.fn.boxes.items k d;
  role_rest : (k : ℕ) (d : g.row.P.Denot) → k < l.left → slice_index_or l.roles.items k d ≡ slice_index_or l.fn.roles.items k d;
  box_room : vec_capacity l.boxes ≡ vec_capacity l.fn.boxes;
  role_room : vec_capacity l.roles ≡ vec_capacity l.fn.roles;
  given : map role_in (map g.H.AnyHandle.value (drop l.left l.handles)) ≡ map (λ role. Some role) (drop l.left l.fn.roles.items);
  counted : map counts_of (map g.H.AnyHandle.value (drop l.left l.handles)) ≡ map (λ m. m.value.counts) (drop l.left l.fn.boxes.items);
  waited : (race : Race) → All (λ m. arc_value m.value.race ≡ race) l.fn.boxes.items → All (BelongsTo race) (map g.H.AnyHandle.value (drop l.left l.handles));
}

abbrev pub decreases-loop-left : goal.decreases-loop-left
decreases-loop-left g l = l.left
