-- No more cards are refined than the heap has.
use Rattle.std.specs.Prelude.{◌≡◌}
use Rattle.g1_handles.specs.{ℕ, ap, arith, card_count, redirect_refined, RedirectsTo}
use Rattle.g1_handles.proofs.{few_refined, fits_words, moved_to}
use Rattle.g1_handles.proofs.one_core.evacuation.redirect_in.Goals as goal

pub returns-in-Ok : goal.returns-in-Ok
returns-in-Ok c =
    let done = c.in-Ok in
    let of = c.in_ok-from.ensures.regions in
    let count : card_count c.layout-layout.result ≡ card_count c.args.core.now.state.table.layout = ap card_count c.layout-layout.ensures.value in
    let few = few_refined c.args.core.now.state (redirect_refined done.answer) c.layout-layout.ensures.sound (done.ensures.step 0).allowed.refines in
    let fits = fits_words c.args.core.now.state (redirect_refined done.answer) c.layout-layout.ensures.sound few in
    let so = moved_to (λ (from to : ℕ). RedirectsTo c.args.core.now from to done.answer c.redirect.new.self) of.0 of.1
    (record { made = record { did = done.ensures.did; step = done.ensures.step; later = done.ensures.later } }) in
    (((omega (arith, few, count, c.card_count.ensures.count, c.if-room-card_count.false), fits), so), tt, tt)
