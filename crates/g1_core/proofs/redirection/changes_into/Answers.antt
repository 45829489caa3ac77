use Rattle.std.specs.Prelude.{◌≡◌, ◌<◌, ◌+◌}
use Rattle.g1_core.specs.{◌∙◌, length, ap, arith, vec_items, All-push, card_count, list_at, changes_of, slots_of, take_all}
use Rattle.g1_core.proofs.{read_next, references_next, card_changes, gains_next, gains_none, lies_outside, lies_inside, member_below}
use Rattle.g1_core.proofs.redirection.changes_into.Goals as goal
use Rattle.g1_core.proofs.redirection.changes_into.Goals.{then-len-before+then-ne+in_ok-push, else-len-before, else-len-before-via-then-len-before+else-ne, else-len-before-via-else-len-before}

pub loop-index-preserved : goal.loop-index-preserved
loop-index-preserved c =
    let many : c.len.result ≡ c.len-before.result + length (changes_of c.args.heap.now.layout c.args.heap.now.refs c.args.from c.args.to (slots_of c.args.heap.now.layout c.at-card.result)) =
    card_changes c.args.heap.now c.loop-index.heap _ c.args.from c.args.to c.at-card.result c.len-before.result c.len.result c.loop-index.references.items c.add_changes_on.new.changes.items c.loop-index.invariant.read
    (c.len-before.ensures ∙ c.loop-index.references.ok.0) (c.len.ensures ∙ c.add_changes_on.new.changes.ok.0) c.in_ok-add_changes_on.ensures.changes in
    record {
      references = references_next c.args.heap.now c.loop-index.heap _ c.args.from c.args.to (list_at c.args.sets.now.lists c.args.from) c.loop-index.index c.at-card.result c.loop-index.references.items c.add_changes_on.new.changes.items
          c.layout-layout.ensures.cells.shape c.loop-index.invariant.read c.at-card.ensures c.loop-index.invariant.references c.in_ok-add_changes_on.ensures.changes;
      cards = elim c.if-len-before.branch [
        | then-len-before+then-ne+in_ok-push w ↦
            gains_next c.args.heap.now c.args.from c.args.to (list_at c.args.sets.now.lists c.args.from) c.loop-index.index c.at-card.result c.at-card.ensures c.loop-index.cards.items c.if-len-before.cards.items c.loop-index.invariant.cards
            (omega (arith, many, w.if-len-before.true)) (lies_outside c.layout-layout.result c.args.heap.now.layout c.at-card.result w.region_of_card.result c.args.to w.ne.result w.ne.ensures w.if-ne.true w.region_of_card.ensures.quotient c.layout-layout.ensures.layout)
            (ap vec_items w.cards-is ∙ w.in_ok-push.ensures.items)
        | else-len-before w ↦ elim w.else-len-before.branch [
          | else-len-before-via-then-len-before+else-ne w' ↦
              gains_none c.args.heap.now c.args.from c.args.to (list_at c.args.sets.now.lists c.args.from) c.loop-index.index c.at-card.result c.at-card.ensures c.loop-index.cards.items c.if-len-before.cards.items c.loop-index.invariant.cards
              (λ some outside. outside (lies_inside c.layout-layout.result c.args.heap.now.layout c.at-card.result w'.region_of_card.result c.args.to w'.ne.result w'.ne.ensures w'.if-ne.false w'.region_of_card.ensures.quotient c.layout-layout.ensures.layout))
              (ap vec_items w.cards-is)
          | else-len-before-via-else-len-before w' ↦
              gains_none c.args.heap.now c.args.from c.args.to (list_at c.args.sets.now.lists c.args.from) c.loop-index.index c.at-card.result c.at-card.ensures c.loop-index.cards.items c.if-len-before.cards.items c.loop-index.invariant.cards
              (λ some outside. omega (arith, many, some, w'.if-len-before.false))
              (ap vec_items w.cards-is)
        ]
      ];
      within = elim c.if-len-before.branch [
        | then-len-before+then-ne+in_ok-push w ↦
            rw (w.cards-is, w.in_ok-push.ensures.items) (All-push (λ card. card < card_count c.args.heap.now.layout) c.loop-index.cards.items c.at-card.result c.loop-index.invariant.within
            (member_below c.args.sets.now c.args.heap.now.layout c.args.from c.loop-index.index c.at-card.result c.len-members.ensures.tied c.requires.layouts c.at-card.ensures))
        | else-len-before w ↦ rw w.cards-is c.loop-index.invariant.within
      ];
      read = read_next c.args.heap.now c.loop-index.heap c.add_changes_on.new.heap c.loop-index.index c.loop-index.invariant.read c.in_ok-add_changes_on.ensures.heap;
    }

pub returns-clause-cards : goal.returns-clause-cards
returns-clause-cards c = rw (take_all c.loop-index.index (list_at c.args.sets.now.lists c.args.from) (omega (arith, c.len-members.ensures.len, c.loop-index-test.false))) at c.loop-index.invariant.cards
