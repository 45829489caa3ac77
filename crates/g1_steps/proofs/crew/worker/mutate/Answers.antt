use Rattle.g1_steps.specs.{[], take, arith, sym, subst, ◌∙◌, append-nil, take-map, length-map, ask_of, asks_of}
use Rattle.g1_steps.proofs.{answered_all, answered_more, asks_more, cut_at}
use Rattle.g1_steps.proofs.crew.worker.mutate.Goals as goal

pub loop-step-preserved : goal.loop-step-preserved
loop-step-preserved g c =
    let was = c.loop-step.invariant in
    let now = c.in_default.ensures in
    let more = asks_more c.args.steps.now c.loop-step.step-index c.step-item.result c.loop-step-test.true c.step-item.is in (
      omega (arith, was.0),
      subst (λ l. g.D.Desk.did c.args.desk.now l c.make.new.desk) (sym more) (g.met.D.Desk.then _ _ _ _ _ was.1 now.ok),
      now.same.0 ∙ was.2,
      now.same.1 ∙ was.3,
      answered_more _ _ _ _ _ _ _ was.4 now.answered more,
    )

pub returns-in-Err-clause-asked : goal.returns-in-Err-clause-asked
returns-in-Err-clause-asked g c =
    let i = c.loop-step.step-index in
    let xs = asks_of (take i c.args.steps.now) in
    let all = g.met.D.Desk.then c.args.desk.now c.loop-step.desk c.make.new.desk xs [] c.loop-step.invariant.1 c.in-Err.ensures.err in
    (omega (arith, length-map c.args.steps.now ask_of), rw (c.loop-step.invariant.0, take-map) (rw append-nil at all))

pub returns-in-Err-clause-ends : goal.returns-in-Err-clause-ends
returns-in-Err-clause-ends g c =
    let was = c.loop-step.invariant in
    cut_at _ _ c.args.steps.now c.loop-step.step-index c.loop-step.made c.step-item.result _ _ _ _ was.0 c.loop-step-test.true c.step-item.is was.4 c.in-Err.ensures.refused

pub returns-clause-ends : goal.returns-clause-ends
returns-clause-ends g c = answered_all _ _ _ c.args.steps.now c.loop-step.step-index c.loop-step-test.false c.loop-step.invariant.4
