use Rattle.std.specs.Prelude.{◌*◌}
use Rattle.g1_core.specs.{take, Contains, PairSet, table_from, AreRead}
use Rattle.g1_core.proofs.{IsLeastFrom, before_but}
use Rattle.g1_core.proofs.clearing.least_after.Given as goal

abbrev pub invariant-loop-card : goal.invariant-loop-card
invariant-loop-card l = record {
  least : (pairs : PairSet) → IsLeastFrom (table_from l.fn.heap pairs) (take l.card-index l.cards) l.region l.past l.least;
  read : (first : Contains l.cards l.first) → AreRead l.fn.heap l.heap (before_but l.card-index first.0 * l.fn.heap.layout.slots);
}
