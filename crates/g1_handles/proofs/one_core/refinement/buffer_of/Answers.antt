-- One card more.
use Rattle.std.specs.Prelude.{◌<◌}
use Rattle.g1_handles.specs.{arith, common_steps, card_count, All-more}
use Rattle.g1_handles.proofs.one_core.refinement.buffer_of.Goals as goal

pub loop-i-preserved : goal.loop-i-preserved
loop-i-preserved c =
    (grind (arith, common_steps), All-more (λ card. card < card_count c.args.layout) c.args.cards.now c.loop-i.i 0 c.loop-i-test.true c.loop-i.invariant.1 c.in_ok-card.ensures.0)
