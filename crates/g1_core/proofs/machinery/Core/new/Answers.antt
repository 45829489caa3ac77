use Rattle.g1_core.specs.{arith}
use Rattle.g1_core.proofs.{made_core, made_machine}
use Rattle.g1_core.proofs.machinery.Core.new.Goals as goal

pub invariant_of-result : goal.invariant_of-result
invariant_of-result c = made_core c.args.layout c.args.config c.hot.result c.ring.result c.in_ok-heap.heap c.in_ok-sets.sets c.in_ok-hot.hot c.counts.ensures.shape
    (omega (arith, c.ring.ensures.within)) c.hot.ensures.count c.ring.ensures.cards c.in_ok-heap.ensures c.in_ok-sets.ensures c.in_ok-hot.ensures

pub returns : goal.returns
returns c = made_machine c.args.layout c.args.config c.hot.result c.ring.result c.in_ok-heap.heap c.in_ok-sets.sets c.in_ok-hot.hot c.counts.ensures.shape
    (omega (arith, c.ring.ensures.within)) c.hot.ensures.count c.ring.ensures.cards c.in_ok-heap.ensures c.in_ok-sets.ensures c.in_ok-hot.ensures
