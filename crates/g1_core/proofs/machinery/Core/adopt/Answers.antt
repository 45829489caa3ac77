use Rattle.std.specs.Prelude.{◌≡◌}
use Rattle.g1_core.specs.{refl, ◌∙◌, ap, arith, Pairs, marks_for}
use Rattle.g1_core.proofs.AdoptionLemmas.{adopted_core}
use Rattle.g1_core.proofs.machinery.Core.adopt.Goals as goal

cells_are : (c : goal.After-new-4) → c.mark_cards-pending.new.heap ≡ record { layout = c.args.layout; refs = c.args.refs.now; marks = marks_for c.args.marked.now; reads = 0 }
cells_are c = rw (c.mark_cards-pending.ensures.heap, c.set_references.ensures, c.in_ok-heap.ensures) refl

pub invariant_of-result : goal.invariant_of-result
invariant_of-result c = adopted_core c.args.layout c.args.config c.args.refs.now c.args.marked.now c.args.pairs.now c.hot.result c.ring.result c.mark_cards-pending.result c.mark_cards-pending.new.heap c.record_pairs.new.sets c.in_ok-hot.hot
    (omega (arith, c.ring.ensures.within)) c.hot.ensures.count c.ring.ensures.cards c.layout.ensures.cells (cells_are c) (c.in_ok-record_pairs.ensures.layout ∙ ap (λ (s : Pairs). s.layout) c.in_ok-sets.ensures) c.in_ok-record_pairs.ensures.pairs
    c.in_ok-hot.ensures c.mark_cards-pending.ensures.pending c.requires.pairs c.requires.cover
