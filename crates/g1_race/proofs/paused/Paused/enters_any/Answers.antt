-- The regions are those of the slots in the heap's layout.
use Rattle.std.specs.Prelude.{◌≡◌}
use Rattle.g1_race.specs.{sym, ap, ◌∙◌, Pause, region_of, table_at}
use Rattle.g1_race.proofs.{lent_view, enters_is, not_into}
use Rattle.g1_race.proofs.paused.Paused.enters_any.Given.{Over}
use Rattle.g1_race.proofs.paused.Paused.enters_any.Goals.{After-number}
use Rattle.g1_race.proofs.paused.Paused.enters_any.Goals as goal

into_is : (g : Over) (c : After-number g) → c.number.result ≡ region_of c.args.self.now.layout c.in-Some.place
into_is g c =
    let laid = ap (λ (h : Pause). h.layout) (lent_view c.race.ensures c.self.view_is ∙ c.target.ensures.same) in
    c.number.ensures ∙ (c.region_of-into.ensures.quotient ∙ (λ i. region_of (laid i) c.in-Some.place))

pub returns-then-not-contains-clause-enters : goal.returns-then-not-contains-clause-enters
returns-then-not-contains-clause-enters g c =
    let is = into_is g ((goal.at.returns-then-not-contains-clause-enters g c).After-number) in
    (λ t. absurd (cc (t)), λ e. absurd (not_into (table_at c.args.self.now) c.args.regions.now c.args.slot c.in-Some.place c.number.result c.in-Some.ensures.told.refers is (sym c.if-not-contains.ensures.value) e))

pub returns-clause-enters : goal.returns-clause-enters
returns-clause-enters g c =
    let laid = ap (λ (h : Pause). h.layout) (lent_view c.race.ensures c.self.view_is ∙ c.target.ensures.same) in
    let is = into_is g ((goal.at.returns-clause-enters g c).After-number) in
    enters_is (table_at c.args.self.now) c.args.regions.now c.args.slot c.in-Some.place c.number.result c.in-Some.ensures.told.refers is (sym c.if-not-contains.ensures.value)
    c.number-2.result (c.number-2.ensures ∙ (c.region_of-of.ensures.quotient ∙ (λ i. region_of (laid i) c.args.slot))) c.contains-2.result c.contains-2.ensures.value
