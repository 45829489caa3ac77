use Rattle.std.specs.Prelude.{◌≤◌, ◌<◌, ◌+◌, ◌-◌}
use Rattle.g1_heap.specs.{ℕ, length, get_or}
use Rattle.g1_heap.proofs.entering.first_between.Given as goal

abbrev pub invariant-loop-at : goal.invariant-loop-at
invariant-loop-at l = record {
  from : l.from ≤ l.at;
  end : l.at ≤ length l.row;
  before : (k : ℕ) → l.from ≤ k → k < l.at → l.low ≤ get_or l.row k 0 → get_or l.row k 0 < l.low + l.size → ⊥;
}

abbrev pub decreases-loop-at : goal.decreases-loop-at
decreases-loop-at l = length l.row - l.at
