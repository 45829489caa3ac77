-- No slot of a card before the one that is looked at refers into the regions.
use Rattle.std.specs.Prelude.{◌<◌}
use Rattle.g1_race.specs.{Some, None, ap, ◌∙◌, subst, arith, card_count, IsCovered, IsNextInto, IsFirstOfCard, Pause, table_at}
use Rattle.g1_race.proofs.{begun_covered, lent_begun, lent_view, first_found, none_left, none_past}
use Rattle.g1_race.proofs.paused.Paused.entering_any.Given.{Over}
use Rattle.g1_race.proofs.paused.Paused.entering_any.Goals.{After-counts-counts}
use Rattle.g1_race.proofs.paused.Paused.entering_any.Goals as goal

covered : (g : Over) (c : After-counts-counts g) → IsCovered (table_at c.args.self.now)
covered g c =
    let race = c.race.result.now in
    subst (λ (h : Pause). IsCovered (table_at h)) (lent_view c.race.ensures c.self.view_is) (begun_covered race.shape race.layout c.self.inside.reader.start.words race.laid (lent_begun c.race.ensures c.self.invariant.1))

pub returns-in-Some-entering_any_on-clause-first : goal.returns-in-Some-entering_any_on-clause-first
returns-in-Some-entering_any_on-clause-first g c =
    let i = c.loop-card.invariant in
    let regions = c.args.regions.now in
    let slots = ap (λ (h : Pause). h.layout.slots) (lent_view c.race.ensures c.self.view_is) in
    first_found (table_at c.args.self.now) regions (covered g ((goal.at.returns-in-Some-entering_any_on-clause-first g c).After-counts-counts)) c.requires.clean c.loop-card.from i.none c.in-Some.card
    (subst (λ (h : Pause). IsNextInto (table_at h) regions c.loop-card.from (Some c.in-Some.card)) i.same c.in-Some.ensures.next) c.in-Some-entering_any_on.slot (omega (arith, slots, c.counts-counts.ensures.shape.slots_low))
    (subst (λ (h : Pause). IsFirstOfCard (table_at h) regions c.in-Some.card (Some c.in-Some-entering_any_on.slot)) (c.next_into.ensures.same ∙ i.same) c.in-Some-entering_any_on.ensures.first)

pub loop-card-preserved : goal.loop-card-preserved
loop-card-preserved g c =
    let i = c.loop-card.invariant in
    let regions = c.args.regions.now in
    let past = none_past (table_at c.args.self.now) regions (covered g ((goal.at.loop-card-preserved g c).After-counts-counts)) c.requires.clean c.loop-card.from i.none c.in-Some.card
    (subst (λ (h : Pause). IsNextInto (table_at h) regions c.loop-card.from (Some c.in-Some.card)) i.same c.in-Some.ensures.next) in
    let within : c.in-Some.card < card_count c.args.self.now.layout = subst (λ (h : Pause). c.in-Some.card < card_count h.layout) i.same c.in-Some.ensures.within in
    record {
      same = c.entering_any_on.ensures.same ∙ (c.next_into.ensures.same ∙ i.same);
      within = omega (arith, within, c.number-from.ensures);
      none = λ slot lt. past (subst (λ (h : Pause). IsFirstOfCard (table_at h) regions c.in-Some.card None) (c.next_into.ensures.same ∙ i.same) c.in_default-entering_any_on.ensures.first) slot (omega (arith, lt, c.number-from.ensures));
    }

pub returns-clause-first : goal.returns-clause-first
returns-clause-first g c =
    let i = c.loop-card.invariant in
    none_left (table_at c.args.self.now) c.args.regions.now (covered g ((goal.at.returns-clause-first g c).After-counts-counts)) c.requires.clean c.loop-card.from i.none
    (subst (λ (h : Pause). IsNextInto (table_at h) c.args.regions.now c.loop-card.from None) i.same c.in_default.ensures.next)
