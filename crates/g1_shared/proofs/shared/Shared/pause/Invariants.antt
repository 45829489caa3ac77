use Rattle.std.specs.Prelude.{◌≡◌, ◌<◌, ◌≤◌}
use Rattle.g1_shared.specs.{ℕ, length, get_or, capacity_of, Empties, CallerState, IsCallerAtPause, taken_list}
use Rattle.g1_shared.proofs.shared.Shared.pause.Given as goal

abbrev pub invariant-loop-at : goal.invariant-loop-at
invariant-loop-at g l =
    (length l.callers ≡ length l.initial.callers)
    × ((k : ℕ) (d : CallerState) → k < l.at → IsCallerAtPause (get_or l.initial.callers k d) (get_or l.callers k d))
    × ((d : CallerState) → 1 ≤ l.at → Empties (taken_list (get_or l.initial.callers 0 d)) (capacity_of l.self) (taken_list (get_or l.callers 0 d)))
    × ((k : ℕ) (d : CallerState) → 1 ≤ k → k < l.at → (get_or l.callers k d).taker ≡ (get_or l.initial.callers k d).taker)
    × ((k : ℕ) (d : CallerState) → l.at ≤ k → get_or l.callers k d ≡ get_or l.initial.callers k d)
