-- The slots from the first of the region on are the region's.
use Rattle.std.specs.Prelude.{◌≡◌, ◌*◌, ◌<◌}
use Rattle.g1_race.specs.{ℕ, ap, ◌∙◌, arith, RaceShape, Pause}
use Rattle.g1_race.proofs.{lent_view, range_on, region_cut}
use Rattle.g1_race.proofs.paused.Paused.cut_region.Goals as goal

pub loop-i-preserved : goal.loop-i-preserved
loop-i-preserved g c = range_on c.args.self.now c.loop-i.self c.cut_slot.new.self (c.args.region * (c.counts-cards.result.1 * c.counts-cards.result.2)) c.loop-i.i c.in-Some.slot c.in-Some.ensures.1 c.loop-i.invariant c.cut_slot.ensures

pub returns : goal.returns
returns g c =
    let race = c.race.result.now in
    let cards = c.counts-cards.ensures.cards in
    let slots = c.counts-cards.ensures.slots in
    let span : ℕ = c.counts-cards.result.1 * c.counts-cards.result.2 in
    let same : span ≡ race.layout.cards * race.layout.slots = λ i. cards i * slots i in
    let some_slot : 0 < race.shape.span = race.shaped.2 in
    region_cut c.args.self.now c.loop-i.self c.args.region span c.loop-i.i (same ∙ ap (λ (h : Pause). h.layout.cards * h.layout.slots) (lent_view c.race.ensures c.self.view_is))
    (omega (arith, same, some_slot, ap (λ (s : RaceShape). s.span) race.laid)) (omega (arith, c.loop-i-test.false, c.loop-i.auto.i-end)) c.loop-i.invariant
