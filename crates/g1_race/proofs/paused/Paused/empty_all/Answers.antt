-- Where sets are emptied, each slot refers to what it did, and each card is as clean.
use Rattle.g1_race.specs.{take, sym, ap, ◌∙◌, subst, Contains, region_of, table_at}
use Rattle.g1_race.proofs.{given_at, IsLike, emptied_like, empties_on, like_crosses}
use Rattle.g1_race.proofs.paused.Paused.empty_all.Given.{Over}
use Rattle.g1_race.proofs.paused.Paused.empty_all.Goals.{In-loop-i}
use Rattle.g1_race.proofs.paused.Paused.empty_all.Goals as goal

like : (g : Over) (c : In-loop-i g) → IsLike (table_at c.args.self.now) (table_at c.loop-i.self)
like g c = emptied_like 0 (take c.loop-i.i c.args.regions.now) (table_at c.args.self.now) (table_at c.loop-i.self) (c.loop-i.invariant.steps 0)

pub empty-requires-clause-none : goal.empty-requires-clause-none
empty-requires-clause-none g c slot x =
    let regions = c.args.regions.now in
    let same = c.loop-i.invariant.race.layout in
    c.requires.none slot x.place (like_crosses (table_at c.args.self.now) (table_at c.loop-i.self) slot x.place (like g ((goal.at.empty-requires-clause-none g c).In-loop-i)) (record { refers = x.refers; across = λ e. x.outside (e ∙ x.into) }))
    (subst (Contains regions) (sym x.into ∙ ap (λ l. region_of l x.place) same) (given_at regions c.loop-i.i c.in-Some.region c.loop-i-test.true c.in-Some.ensures.1))

pub empty-requires-clause-clean : goal.empty-requires-clause-clean
empty-requires-clause-clean g c = (like g ((goal.at.empty-requires-clause-clean g c).In-loop-i)).pending ∙ c.requires.clean

pub loop-i-preserved : goal.loop-i-preserved
loop-i-preserved g c = empties_on c.args.self.now c.loop-i.self c.empty.new.self c.args.regions.now c.loop-i.i c.in-Some.region c.loop-i-test.true c.in-Some.ensures.1 c.loop-i.invariant c.empty.ensures
