use Rattle.std.specs.Prelude.{◌≡◌, ◌+◌, ◌≤◌, ◌++◌}
use Rattle.g1_steps.specs.{map, vec_len, vec_capacity, All, into_iter_len, into_iter_items, JobFits}
use Rattle.g1_steps.proofs.crew.job.start_all.Given as goal

abbrev pub invariant-loop-job : goal.invariant-loop-job
invariant-loop-job g l =
    (map (λ h. h.promise.0.value) l.running.items ++ into_iter_items l.job-iterator ≡ l.fn.jobs.items)
    × (vec_len l.running + into_iter_len l.job-iterator ≡ vec_len l.fn.jobs)
    × (vec_len l.fn.jobs ≤ vec_capacity l.running)
    × All (JobFits g.D.Desk.slots g.D.Desk.may_store) (into_iter_items l.job-iterator)
