-- The parties that are in the list are of the race, have their indices as numbers, and have counted nothing.
use Rattle.std.specs.Prelude.{◌≡◌, ◌<◌}
use Rattle.g1_handles.specs.{ℕ, All, slice_index_or, vec_len, arc_value, no_counts}
use Rattle.g1_handles.proofs.heap.open.waiting.Given as goal

abbrev pub invariant-loop-number : goal.invariant-loop-number
invariant-loop-number g l = record {
  count : vec_len l.parties ≡ l.number;
  race : All (λ m. arc_value m.value.race ≡ arc_value l.race) l.parties.items;
  counts : (i : ℕ) (m : _) → i < vec_len l.parties → (slice_index_or l.parties.items i m).value.counts ≡ no_counts i;
}
