use Rattle.std.specs.Prelude.{◌+◌, ◌<◌, ◌≤◌}
use Rattle.g1_race.specs.{Cuts}
use Rattle.g1_race.proofs.paused.Paused.cut_region.Given as goal

abbrev pub invariant-loop-i : goal.invariant-loop-i
invariant-loop-i g l = Cuts l.fn.self (λ slot. (l.first ≤ slot) × (slot < l.first + l.i)) l.self
