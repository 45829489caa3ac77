use Rattle.std.specs.Prelude.{◌≡◌, ◌≤◌, ◌-◌}
use Rattle.g1_replay.specs.{[], All, vec_len, vec_capacity}
use Rattle.g1_replay.proofs.scripts.Scripts.new.Given as goal

-- no calls of those so far, and room for the rest
abbrev pub invariant-scripts : goal.invariant-scripts
invariant-scripts l = record {
  most : vec_len l.steps ≤ l.mutators;
  room : vec_capacity l.steps ≡ l.mutators;
  none : All (λ steps. steps.items ≡ []) l.steps.items;
}

abbrev pub decreases-scripts : goal.decreases-scripts
decreases-scripts l = l.mutators - vec_len l.steps
