-- Where regions are forgotten, each slot refers to what it did.
use Rattle.g1_race.specs.{take, sym, ap, ◌∙◌, subst, Contains, region_of, table_at, Pause}
use Rattle.g1_race.proofs.{given_at, IsLike, forgets_on, forgotten_like, like_crosses}
use Rattle.g1_race.proofs.paused.Paused.forget_all.Goals as goal

pub forget-requires-clause-closed : goal.forget-requires-clause-closed
forget-requires-clause-closed g c slot place x e =
    let old : Pause = c.args.self.now in
    let regions = c.args.regions.now in
    let like = subst (IsLike (table_at old)) (sym c.loop-i.invariant.table) (forgotten_like (take c.loop-i.i regions) (table_at old)) in
    c.requires.closed slot place (like_crosses (table_at old) (table_at c.loop-i.self) slot place like x)
    (subst (Contains regions) (sym e ∙ ap (λ l. region_of l slot) c.loop-i.invariant.race.layout) (given_at regions c.loop-i.i c.in-Some.region c.loop-i-test.true c.in-Some.ensures.1))

pub loop-i-preserved : goal.loop-i-preserved
loop-i-preserved g c = forgets_on c.args.self.now c.loop-i.self c.forget.new.self c.args.regions.now c.loop-i.i c.in-Some.region c.loop-i-test.true c.in-Some.ensures.1 c.loop-i.invariant c.forget.ensures
