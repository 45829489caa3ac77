use Rattle.std.specs.Prelude.{◌≡◌}
use Rattle.g1_replay.specs.{take, sum_by, stores_in}
use Rattle.g1_replay.proofs.scripts.count_stores.Given as goal

-- the stores of the scripts so far
abbrev pub invariant-loop-script : goal.invariant-loop-script
invariant-loop-script l = l.stores ≡ sum_by (λ script. stores_in script.items) (take l.script-index l.scripts)
