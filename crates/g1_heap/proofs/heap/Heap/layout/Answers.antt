use Rattle.g1_heap.specs.{subst, AreCells}
use Rattle.g1_heap.proofs.{cells_from}
use Rattle.g1_heap.proofs.heap.Heap.layout.Goals as goal

pub returns-clause-cells : goal.returns-clause-cells
returns-clause-cells c = subst AreCells c.self.view_is (cells_from c.self.inside.layout c.self.inside.words.items c.self.inside.bytes.items c.self.inside.reads c.self.invariant)
