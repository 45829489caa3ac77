use Rattle.g1_sets.specs.{take, RowsGain}
use Rattle.g1_sets.proofs.rows.add_region.Given as goal

abbrev pub invariant-loop-card : goal.invariant-loop-card
invariant-loop-card l = RowsGain (take l.card-index l.cards) l.region l.fn.rows l.rows
