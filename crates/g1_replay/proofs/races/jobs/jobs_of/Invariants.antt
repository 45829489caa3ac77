use Rattle.std.specs.Prelude.{◌≡◌, ◌+◌, ◌++◌, ◌≤◌}
use Rattle.g1_replay.specs.{drop, map, vec_len, vec_capacity, All, into_iter_len, into_iter_items, slot_count, race_layout, ScriptFits, is_racer, AllFrom, IsNewParty, with_flush, IsScriptAt}
use Rattle.g1_replay.proofs.races.jobs.jobs_of.Given as goal

-- the jobs so far are those of the parties that came first
abbrev pub invariant-loop-party : goal.invariant-loop-party
invariant-loop-party g l = record {
  len : vec_len l.jobs + into_iter_len l.party-iterator ≡ vec_len l.fn.parties;
  room : vec_len l.fn.parties ≤ vec_capacity l.jobs;
  same : map (λ job. job.desk.party) l.jobs.items ++ into_iter_items l.party-iterator ≡ l.fn.parties.items;
  rest : AllFrom (IsNewParty l.race l.line l.options.mutators) (vec_len l.jobs) (into_iter_items l.party-iterator);
  jobs : AllFrom (λ k job. IsNewParty l.race l.line l.options.mutators k job.desk.party × IsScriptAt (with_flush (λ steps. steps.items)) l.options.rounds l.fn.scripts.items k job.script) 0 l.jobs.items;
  fits : All (λ job. ScriptFits (slot_count (race_layout job.desk.race.now)) (is_racer job.desk.party) job.script) l.jobs.items;
  logs : All (λ job. job.desk.fill ≡ l.options.config.log) l.jobs.items;
  left : l.left.items ≡ drop (vec_len l.jobs) l.fn.scripts.items;
}
