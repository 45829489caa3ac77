use Rattle.std.specs.Prelude.{◌≡◌, ◌<◌, ◌≤◌}
use Rattle.g1_steps.specs.{ℕ, length, get_or, IsStopped, Mutator}
use Rattle.g1_steps.proofs.steps.standstill.stand_still.Given as goal

abbrev pub invariant-loop-at : goal.invariant-loop-at
invariant-loop-at g l =
    (length l.mutators ≡ length l.initial.mutators)
    × ((k : ℕ) (d : Mutator) → k < l.at → IsStopped (get_or l.initial.mutators k d) (get_or l.mutators k d))
    × ((k : ℕ) (d : Mutator) → l.at ≤ k → get_or l.mutators k d ≡ get_or l.initial.mutators k d)
