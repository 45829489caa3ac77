use Rattle.g1_heap.proofs.TargetLemmas.{targets_of_none}
use Rattle.g1_heap.proofs.heap.Heap.targets.Goals as goal

pub returns-clause-regions : goal.returns-clause-regions
returns-clause-regions c = targets_of_none c.args.self.now.layout c.args.self.now.refs c.args.card c.new.result c.list_targets.new.targets.items c.new.ensures c.list_targets.ensures.regions

pub returns-clause-holds : goal.returns-clause-holds
returns-clause-holds c = (returns-clause-regions c).holds
