-- This many of the set's cards are below the next number, and the array has the first of them.
use Rattle.std.specs.Prelude.{◌≡◌, ◌-◌, ◌≤◌}
use Rattle.g1_handles.specs.{ℕ, length, card_count, table_at, drop}
use Rattle.g1_handles.proofs.SetLemmas.{Shows}
use Rattle.g1_handles.proofs.heap.sets.write_set.Given as goal

abbrev pub invariant-loop-card : goal.invariant-loop-card
invariant-loop-card l = record {
  same : l.heap ≡ l.fn.heap;
  sized : length l.array ≡ length l.fn.array;
  within : l.from ≤ card_count l.fn.heap.layout;
  few : l.count ≤ l.from;
  shown : Shows (table_at l.fn.heap) l.region l.from l.count l.array;
  rest : (k : ℕ) → l.count ≤ k → drop k l.array ≡ drop k l.fn.array;
}

abbrev pub decreases-loop-card : goal.decreases-loop-card
decreases-loop-card l = card_count l.fn.heap.layout - l.from
