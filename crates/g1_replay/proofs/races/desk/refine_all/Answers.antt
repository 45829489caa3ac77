use Rattle.std.specs.Prelude.{◌<◌}
use Rattle.g1_replay.specs.{◌∙◌, ℕ, subst, Contains, card_count, race_layout, sweeper_view}
use Rattle.g1_replay.proofs.SweptLemmas.{swept_more}
use Rattle.g1_replay.proofs.races.desk.refine_all.Goals as goal

pub loop-card-preserved : goal.loop-card-preserved
loop-card-preserved c =
    let refined = c.in_ok-refine_one.ensures in
    let here = subst (λ (card : ℕ). card < card_count (race_layout c.args.race.now) → Contains (sweeper_view c.refine_one.new.sweeper).swept card) c.card-item.is refined.swept in
    (refined.race ∙ c.loop-card.invariant.0, swept_more _ c.args.cards.now _ _ c.loop-card.card-index _ c.loop-card-test.true here refined.kept c.loop-card.invariant.1, refined.start ∙ c.loop-card.invariant.2)
