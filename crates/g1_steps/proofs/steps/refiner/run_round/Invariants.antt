use Rattle.std.specs.Prelude.{◌≡◌, ◌≤◌, ◌*◌, ◌+◌}
use Rattle.g1_steps.specs.{length, vec_capacity, taken_of, capacity_of, IsSameTaker, progress}
use Rattle.g1_steps.proofs.RoundLemmas.{IsRoundSoFar}
use Rattle.g1_steps.proofs.steps.refiner.run_round.Given as goal

abbrev pub invariant-loop-turn : goal.invariant-loop-turn
invariant-loop-turn g l =
    IsRoundSoFar g.C.Calls.did l.initial.calls (taken_of l.initial.taker) l.turn (vec_capacity l.sums.refined) (progress l.calls l.sums l.taker)
    × (l.turn ≡ 0 → (l.calls ≡ l.initial.calls) × (taken_of l.taker ≡ taken_of l.initial.taker))
    × ((l.sums.taken ≤ l.turn) × (length l.sums.refined.items + l.sums.skipped ≤ 256 * l.turn) × (l.sums.hot ≤ 256 * l.turn) × (l.sums.left ≤ capacity_of l.line))
    × IsSameTaker l.taker l.initial.taker
