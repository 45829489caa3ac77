use Rattle.g1_heap.proofs.{marked}
use Rattle.g1_heap.proofs.heap.Heap.set_mark.Goals as goal

pub returns : goal.returns
returns c = marked c.self.inside.layout _ _ _ c.args.card c.number.result c.byte.result c.args.mark c.args.self.now c.self.view_is c.number.ensures c.byte.ensures
