use Rattle.g1_sets.specs.{◌∙◌, ap, sym, take, arith, fold_more, with_card, with_cards}
use Rattle.g1_sets.proofs.members.insert_cards.Goals as goal

pub loop-card-preserved : goal.loop-card-preserved
loop-card-preserved c = record {
  cards =
      c.insert.ensures.cards ∙ ap (λ ks. with_card ks c.card-item.result) c.loop-card.invariant.cards
      ∙ ap (λ x. with_card (with_cards c.args.members.now.keys (take c.loop-card.card-index c.args.cards.now)) x) c.card-item.is
      ∙ sym (fold_more with_card c.args.members.now.keys c.args.cards.now c.loop-card.card-index c.card-item.result c.loop-card-test.true);
  room = omega (arith, c.loop-card.invariant.room, c.insert.ensures.room);
}
