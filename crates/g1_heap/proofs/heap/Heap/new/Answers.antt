use Rattle.g1_heap.specs.{rules, arith, slot_count_limit}
use Rattle.g1_heap.proofs.{new_parts}
use Rattle.g1_heap.proofs.heap.Heap.new.Goals as goal

pub returns : goal.returns
returns c = new_parts c.args.layout _ _ 4294967295 (omega (arith, slot_count_limit c.args.layout c.counts-regions.ensures.shape)) (search rules) (search rules)
