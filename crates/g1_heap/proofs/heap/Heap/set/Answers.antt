use Rattle.g1_heap.specs.{arith, sym, ap, ◌∙◌, slot_count_limit}
use Rattle.g1_heap.specs.Cells.{Cells}
use Rattle.g1_heap.proofs.{written, ref_of-some, ref_of-null}
use Rattle.g1_heap.proofs.heap.Heap.set.Goals as goal
use Rattle.g1_heap.proofs.heap.Heap.set.Goals.{in-Some, in-None}

pub returns : goal.returns
returns c = written c.self.inside.layout _ _ _ c.args.slot c.number.result c.match-target.word c.args.target c.args.self.now c.self.view_is c.number.ensures
    (elim c.match-target.branch [
      | in-Some w ↦ ref_of-some c.self.inside.layout c.args.self.now c.args.target c.match-target.word w.in-Some.place (ap (λ (d : Cells). d.layout) c.self.view_is) w.in-Some.is (w.word-is ∙ w.number-word.ensures) c.requires.target
      | in-None w ↦ ref_of-null c.self.inside.layout c.match-target.word (omega (arith, slot_count_limit c.self.inside.layout c.self.invariant.shape, w.word-is)) ∙ sym w.in-None.is
    ])
