use Rattle.g1_core.specs.{◌∙◌, ap, arith, not, Shape, slot_at, same_offset, Cells}
use Rattle.g1_core.proofs.{lies_outside}
use Rattle.g1_core.proofs.EnteringLemmas.{walked, card_next, card_end}
use Rattle.g1_core.proofs.redirection.add_changes_on.Goals as goal

pub loop-next-preserved : goal.loop-next-preserved
loop-next-preserved c =
    let was = c.loop-next.invariant in
    record {
      within = omega (arith, c.in-Some.ensures.next.within, ap (λ (h : Cells). h.layout.slots) was.read.cells);
      read = walked c.args.heap.now c.loop-next.heap c.next_into.new.self c.loop-next.offset was.read was.bound c.in-Some.next.0 c.in-Some.ensures.next.not_before c.in-Some.ensures.reads;
      bound = omega (arith, ap (λ (h : Cells). h.reads) c.in-Some.ensures.reads);
      changes = card_next c.args.heap.now c.loop-next.heap c.loop-next.offset c.args.from c.args.to c.args.card c.loop-next.offset c.args.changes.now.items c.loop-next.changes.items was.read was.changes
          c.in-Some.next.0 c.in-Some.next.1 c.slot_at-slot.result c.same_offset-place.result c.push.new.self.items
          (lies_outside c.layout-layout.result c.args.heap.now.layout c.args.card c.region_of_card.result c.args.from (not c.eq.result) (ap not c.eq.ensures) (ap not c.if-eq.false) c.region_of_card.ensures.quotient c.layout-layout.ensures.layout)
          c.in-Some.ensures.next (c.slot_at-slot.ensures.slot ∙ ap (λ (l : Shape). slot_at l c.args.card c.in-Some.next.0) c.layout-layout.ensures.layout)
          (c.same_offset-place.ensures.place ∙ ap (λ (l : Shape). same_offset l c.in-Some.next.1 c.args.to) c.layout-layout.ensures.layout) c.in_ok-push.ensures.items;
    }

pub returns-clause-changes : goal.returns-clause-changes
returns-clause-changes c = card_end c.args.heap.now c.loop-next.heap c.loop-next.offset c.args.from c.args.to c.args.card c.loop-next.offset c.args.changes.now.items c.loop-next.changes.items c.loop-next.invariant.read c.loop-next.invariant.changes
    c.loop-next.invariant.within c.in_default.ensures.next
