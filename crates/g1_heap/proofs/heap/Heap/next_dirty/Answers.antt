use Rattle.g1_heap.specs.{ap, ◌∙◌, arith, map, card_count, mark_of}
use Rattle.g1_heap.specs.Cells.{Cells}
use Rattle.g1_heap.proofs.DirtyLemmas.{none_next, some_next}
use Rattle.g1_heap.proofs.heap.Heap.next_dirty.Goals as goal

pub returns-in_err-skipped : goal.returns-in_err-skipped
returns-in_err-skipped c = none_next c.args.self.now.marks c.deref.result.now c.args.from c.from_residual.result c.from_residual.ensures
    (ap (map mark_of) c.deref.ensures.value ∙ ap (λ (d : Cells). d.marks) c.self.view_is) c.in_err-skipped.ensures

pub returns : goal.returns
returns c = some_next c.args.self.now.marks c.deref.result.now c.args.from c.in_ok-skipped.skipped (card_count c.self.inside.layout) c.card.result c.card.ensures (omega arith)
    (ap (map mark_of) c.deref.ensures.value ∙ ap (λ (d : Cells). d.marks) c.self.view_is) c.in_ok-skipped.ensures
