-- No list is longer than the heap has cards.
use Rattle.std.specs.Prelude.{◌≡◌}
use Rattle.std.proofs.lemmas.Grind.{common_steps}
use Rattle.g1_handles.specs.{rules, ap, arith, card_count, drain_cards}
use Rattle.g1_handles.proofs.{few_drained, few_refined, fits_words}
use Rattle.g1_handles.proofs.one_core.pause.drain_in.Goals as goal

pub returns-in-Ok : goal.returns-in-Ok
returns-in-Ok c =
    let done = c.in-Ok in
    let count : card_count c.layout-layout.result ≡ card_count c.args.core.now.state.table.layout = ap card_count c.layout-layout.ensures.value in
    let few = few_drained c.args.core.now c.drain.new.self c.in_ok-region.region done.answer done.ensures.did in (
      (
        (omega (arith, few, count, c.card_count-most.ensures.count, c.if-room-most.false), fits_words c.args.core.now.state (drain_cards done.answer) c.layout-layout.ensures.sound few),
        grind (arith, few_refined, fits_words),
        first_of (search rules, grind (arith, common_steps)),
      ),
      tt,
      tt,
    )
