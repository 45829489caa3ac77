use Rattle.std.specs.Prelude.{◌<◌}
use Rattle.g1_shared.specs.{subst, Line, CallerState, WorksBy}
use Rattle.g1_shared.proofs.{works, work_number}
use Rattle.g1_shared.proofs.shared.Shared.work.Goals as goal

pub invariant_of-caller : goal.invariant_of-caller
invariant_of-caller g c =
    let number = work_number _ g.M.Terms.terms c.self.inside.line c.self.inside.start _ _ c.caller.inside.counts c.work.new.calls.counts.now c.caller.inside.taker c.work.new.taker c.work.result c.self.invariant (λ calls h. h.1) (λ e i. (e i).counts.now) c.work.ensures in
    λ below. c.caller.invariant (subst (λ n. n < g.M.Terms.terms.mutators) number below)

pub returns : goal.returns
returns g c =
    let terms = g.M.Terms.terms in
    let caller = c.caller.inside in
    let now = c.work.new.calls.counts.now in
    let P : Line → CallerState → Type 0 = λ l s. WorksBy terms l s c.work.result (record { counts = now; mutator = caller.mutator; taker = c.work.new.taker }) in
    subst (λ l. P l c.args.caller.now) c.self.view_is (subst (P c.self.inside.line) c.caller.view_is
    (works _ terms c.self.inside.line c.self.inside.start _ _ caller.counts now caller.mutator caller.taker c.work.new.taker c.work.result c.self.invariant (λ calls h. h.1) (λ e i. (e i).counts.now) c.work.ensures))
