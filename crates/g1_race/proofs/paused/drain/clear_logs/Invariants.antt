use Rattle.std.specs.Prelude.{◌≡◌, ◌<◌}
use Rattle.g1_race.specs.{ℕ, [], get_or}
use Rattle.g1_race.proofs.paused.drain.clear_logs.Given as goal

abbrev pub invariant-loop-racer : goal.invariant-loop-racer
invariant-loop-racer l = (k : ℕ) (d : _) → k < l.racer-index → (get_or l.racer-items k d).log.items ≡ []
