-- The first i handles are closed and have given what they had, and the others are as they were.
use Rattle.std.specs.Prelude.{◌≡◌, ◌≤◌}
use Rattle.g1_handles.specs.{ℕ, All, Some, None, length, map, take, slice_index_or, vec_len, vec_capacity, AllWithin, arc_value, Race, race_id, boxed_counts, counts_of, role_in, BelongsTo}
use Rattle.g1_handles.proofs.heap.phases.gather.Given as goal

abbrev pub invariant-loop-i : goal.invariant-loop-i
invariant-loop-i g l = record {
  sized : length l.handles ≡ length l.fn.handles;
  role_count : vec_len l.roles ≡ l.i;
  box_count : vec_len l.boxes ≡ l.i;
  role_room : vec_capacity l.roles ≡ vec_capacity l.fn.roles;
  box_room : vec_capacity l.boxes ≡ vec_capacity l.fn.boxes;
  closed : AllWithin (λ h. g.H.AnyHandle.value h ≡ None) l.handles 0 l.i;
  rest : (k : ℕ) (d : g.row.H.Denot) → l.i ≤ k → slice_index_or l.handles k d ≡ slice_index_or l.fn.handles k d;
  of : (race : Race) → All (BelongsTo race) (map g.H.AnyHandle.value l.fn.handles) → All (λ role. g.P.Role.of role ≡ race_id race) l.roles.items;
  waiting : (race : Race) → All (BelongsTo race) (map g.H.AnyHandle.value l.fn.handles) → All (λ m. arc_value m.value.race ≡ race) l.boxes.items;
  counted : boxed_counts l.boxes ≡ map counts_of (map g.H.AnyHandle.value (take l.i l.fn.handles));
  given : map (λ role. Some role) l.roles.items ≡ map role_in (map g.H.AnyHandle.value (take l.i l.fn.handles));
}
