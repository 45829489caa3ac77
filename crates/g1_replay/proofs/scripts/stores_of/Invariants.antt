use Rattle.std.specs.Prelude.{◌≡◌, ◌≤◌}
use Rattle.g1_replay.specs.{take, stores_in}
use Rattle.g1_replay.proofs.scripts.stores_of.Given as goal

-- the stores among the calls so far
abbrev pub invariant-loop-step : goal.invariant-loop-step
invariant-loop-step l = (l.stores ≡ stores_in (take l.step-index l.script)) × (l.stores ≤ l.step-index)
