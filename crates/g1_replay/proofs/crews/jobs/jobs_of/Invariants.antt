use Rattle.std.specs.Prelude.{◌≡◌, ◌+◌, ◌≤◌, ◌++◌}
use Rattle.g1_replay.specs.{drop, map, vec_len, vec_capacity, All, into_iter_len, into_iter_items, IsCallerOf, AllFrom, IsScriptAt}
use Rattle.g1_replay.proofs.crews.jobs.jobs_of.Given as goal

-- the callers that are left are of the book, and each job so far has the script of its caller
abbrev pub invariant-loop-caller : goal.invariant-loop-caller
invariant-loop-caller g l = record {
  count : vec_len l.jobs + into_iter_len l.caller-iterator ≡ vec_len l.fn.callers;
  room : vec_len l.fn.callers ≤ vec_capacity l.jobs;
  rest : AllFrom (λ k caller. IsCallerOf l.shared caller × (caller.counts.number ≡ k)) (vec_len l.jobs) (into_iter_items l.caller-iterator);
  callers : map (λ job. job.desk.caller) l.jobs.items ++ into_iter_items l.caller-iterator ≡ l.fn.callers.items;
  jobs : All (λ job. IsScriptAt (λ steps. steps.items) l.rounds l.fn.scripts.items job.desk.caller.counts.number job.script) l.jobs.items;
  shared : All (λ job. job.desk.shared.now ≡ l.shared) l.jobs.items;
  left : l.left.items ≡ drop (vec_len l.jobs) l.fn.scripts.items;
}
