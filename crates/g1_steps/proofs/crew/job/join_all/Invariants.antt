use Rattle.std.specs.Prelude.{◌≡◌, ◌+◌, ◌≤◌, ◌++◌}
use Rattle.g1_steps.specs.{map, vec_len, vec_capacity, AllZip, JobRan, JobEnded, IsAnswered, into_iter_len, into_iter_items}
use Rattle.g1_steps.proofs.crew.job.join_all.Given as goal

abbrev pub invariant-loop-handle : goal.invariant-loop-handle
invariant-loop-handle g l =
    (l.yielded ++ into_iter_items l.handle-iterator ≡ l.fn.running.items)
    × (vec_len l.done + into_iter_len l.handle-iterator ≡ vec_len l.fn.running)
    × (vec_len l.fn.running ≤ vec_capacity l.done)
    × AllZip (JobRan g.D.Desk.did) (map (λ h. h.promise.0.value) l.yielded) l.done.items
    × AllZip (JobEnded (IsAnswered g.D.Desk.stored g.D.Desk.flushed g.D.Desk.worked) g.D.Desk.refused) (map (λ h. h.promise.0.value) l.yielded) l.done.items
