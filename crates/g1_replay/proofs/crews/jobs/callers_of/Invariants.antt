use Rattle.std.specs.Prelude.{◌≡◌, ◌+◌, ◌≤◌, ◌<◌, ◌^◌, ◌++◌}
use Rattle.g1_replay.specs.{map, vec_len, vec_capacity, sum_by, option_or, into_iter_len, into_iter_items, first_refusal, stored_by}
use Rattle.g1_replay.proofs.crews.jobs.callers_of.Given as goal

-- one caller a job so far, with the sum of their stores unless it is too large, and the first refusal is the one so far, or the first of the jobs that are left
abbrev pub invariant-loop-job : goal.invariant-loop-job
invariant-loop-job g l =
    (vec_len l.callers + into_iter_len l.job-iterator ≡ vec_len l.fn.jobs) × (vec_len l.fn.jobs ≤ vec_capacity l.callers)
    × (l.callers.items ++ map (λ job. job.desk.caller) (into_iter_items l.job-iterator) ≡ map (λ job. job.desk.caller) l.fn.jobs.items)
    × (sum_by (λ caller. stored_by caller.counts) l.callers.items < 2 ^ 64 → l.stores ≡ sum_by (λ caller. stored_by caller.counts) l.callers.items)
    × (option_or l.refused (first_refusal (map (λ job. job.outcome) (into_iter_items l.job-iterator))) ≡ first_refusal (map (λ job. job.outcome) l.fn.jobs.items))
