use Rattle.g1_sets.specs.{length, subst, sym, take, take_all, ℕ, slice_set, RowsLose}
use Rattle.g1_sets.proofs.{lose_none, lose_more, taken, within}
use Rattle.g1_sets.proofs.rows.remove_region.Goals as goal

pub loop-card-init : goal.loop-card-init
loop-card-init c = lose_none c.args.region c.args.rows.now

pub loop-card-preserved : goal.loop-card-preserved
loop-card-preserved c =
    let n : ℕ = c.number.result in
    let inside = within c.args.cards.now c.loop-card.card-index c.card-item.result n (length c.args.rows.now) (length c.loop-card.rows) c.loop-card-test.true c.card-item.is c.number.ensures c.loop-card.auto.rows c.requires.cards in
    subst (λ cards. RowsLose cards c.args.region c.args.rows.now (slice_set c.loop-card.rows n c.remove.new.self)) (sym (taken c.args.cards.now c.loop-card.card-index c.card-item.result n c.loop-card-test.true c.card-item.is c.number.ensures))
    (lose_more (take c.loop-card.card-index c.args.cards.now) c.args.region c.args.rows.now c.loop-card.rows n c.remove.new.self inside c.loop-card.invariant c.remove.ensures)

pub returns : goal.returns
returns c = subst (λ cards. RowsLose cards c.args.region c.args.rows.now c.loop-card.rows) (take_all c.loop-card.card-index c.args.cards.now c.loop-card-test.false) c.loop-card.invariant
