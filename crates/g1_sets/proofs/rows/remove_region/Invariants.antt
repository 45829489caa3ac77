use Rattle.g1_sets.specs.{take, RowsLose}
use Rattle.g1_sets.proofs.rows.remove_region.Given as goal

abbrev pub invariant-loop-card : goal.invariant-loop-card
invariant-loop-card l = RowsLose (take l.card-index l.cards) l.region l.fn.rows l.rows
