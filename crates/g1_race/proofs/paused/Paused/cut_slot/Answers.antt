use Rattle.std.specs.Prelude.{◌≡◌}
use Rattle.g1_race.specs.{sym, ap, ◌∙◌, eq-eqb, eqb-true, true≢false, Pause, region_of, table_at}
use Rattle.g1_race.proofs.{lent_view, cuts_none, cuts_one, inside_closed, null_closed}
use Rattle.g1_race.proofs.paused.Paused.cut_slot.Given.{Over}
use Rattle.g1_race.proofs.paused.Paused.cut_slot.Goals.{After-eq}
use Rattle.g1_race.proofs.paused.Paused.cut_slot.Goals as goal

-- the regions are those of the slots in the heap's layout
regions_are : (g : Over) (c : After-eq g) → (region_of c.args.self.now.layout c.args.slot ≡ c.region_of.result) × (region_of c.args.self.now.layout c.in-Some.place ≡ c.region_of-2.result)
regions_are g c =
    let laid = ap (λ (h : Pause). h.layout) (lent_view c.race.ensures c.self.view_is ∙ c.target.ensures.same) in
    ((λ i. region_of (sym laid i) c.args.slot) ∙ sym c.region_of.ensures.quotient, (λ i. region_of (sym laid i) c.in-Some.place) ∙ sym c.region_of-2.ensures.quotient)

pub returns-in_default : goal.returns-in_default
returns-in_default g c = cuts_none c.args.self.now c.target.new.self (λ other. other ≡ c.args.slot) c.target.ensures.same (null_closed (table_at c.args.self.now) c.args.slot c.in_default.ensures.told.refers)

pub returns-then-eq : goal.returns-then-eq
returns-then-eq g c =
    let are = regions_are g ((goal.at.returns-then-eq g c).After-eq) in
    cuts_none c.args.self.now c.target.new.self (λ other. other ≡ c.args.slot) c.target.ensures.same
    (inside_closed (table_at c.args.self.now) c.args.slot c.in-Some.place c.in-Some.ensures.told.refers (are.0 ∙ (eqb-true _ _ (sym c.eq.ensures ∙ c.if-eq.true) ∙ sym are.1)))

pub returns : goal.returns
returns g c =
    let are = regions_are g ((goal.at.returns g c).After-eq) in
    cuts_one c.args.self.now c.target.new.self c.store.new.self c.args.slot c.in-Some.place c.store.result c.target.ensures.same (record {
      refers = sym c.in-Some.ensures.told.refers;
      across = λ e. true≢false (sym (eq-eqb _ _ (sym are.0 ∙ (e ∙ are.1))) ∙ (sym c.eq.ensures ∙ c.if-eq.false));
    }) c.store.ensures
