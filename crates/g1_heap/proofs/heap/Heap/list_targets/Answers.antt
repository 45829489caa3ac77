use Rattle.g1_heap.specs.{subst, List, ℕ, map, AreCells, ref_of, AreNewTargets}
use Rattle.g1_heap.specs.Cells.{Cells}
use Rattle.g1_heap.proofs.{cells_from}
use Rattle.g1_heap.proofs.HoldLemmas.{targets_within}
use Rattle.g1_heap.proofs.heap.Heap.list_targets.Goals as goal

pub returns-clause-regions : goal.returns-clause-regions
returns-clause-regions c =
    subst (λ (d : Cells). AreNewTargets d.layout d.refs c.args.card c.args.known.now c.add_targets.new.targets.items) c.self.view_is
    (subst (λ (ws : List ℕ). AreNewTargets c.self.inside.layout (map (ref_of c.self.inside.layout) ws) c.args.card c.args.known.now c.add_targets.new.targets.items) c.as_slice.ensures.value c.add_targets.ensures)

pub returns-clause-holds : goal.returns-clause-holds
returns-clause-holds c = (returns-clause-regions c).holds

pub returns-clause-within : goal.returns-clause-within
returns-clause-within c = targets_within c.args.self.now c.args.card c.add_targets.new.targets.items
    (subst AreCells c.self.view_is (cells_from c.self.inside.layout c.self.inside.words.items c.self.inside.bytes.items c.self.inside.reads c.self.invariant)) (λ r m. ((returns-clause-holds c r).0 m).0)
