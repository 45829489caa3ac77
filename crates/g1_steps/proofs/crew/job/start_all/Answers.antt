use Rattle.g1_steps.specs.{arith, ap, ◌∙◌, JobFits, All-rest}
use Rattle.g1_steps.proofs.{started_more}
use Rattle.g1_steps.proofs.crew.job.start_all.Goals as goal

pub loop-job-preserved : goal.loop-job-preserved
loop-job-preserved g c =
    let was = c.loop-job.invariant in
    let steps = c.in-Some.ensures.steps in
    let begun = ap (λ p. p.0.value) c.in-Ok.ensures.ok ∙ c.of.ensures in (
      started_more (λ h. h.promise.0.value) _ _ _ _ _ _ _ was.0 steps.0 c.push_reserved.ensures.items begun,
      omega arith,
      omega arith,
      All-rest (JobFits g.D.Desk.slots g.D.Desk.may_store) _ _ _ steps.0 was.3,
    )
