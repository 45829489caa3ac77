use Rattle.std.specs.Prelude.{◌≡◌, ◌++◌}
use Rattle.g1_replay.specs.{List, map, into_iter_items, Party, HasBack, first_refusal}
use Rattle.g1_replay.proofs.races.jobs.returned_by.Given as goal

-- the parties of the jobs so far are back, and none of these was refused
abbrev pub invariant-loop-job : goal.invariant-loop-job
invariant-loop-job g l = record {
  back : (parties : List Party) × HasBack parties l.returned × (parties ++ map (λ job. job.desk.party) (into_iter_items l.job-iterator) ≡ map (λ job. job.desk.party) l.fn.jobs.items);
  whole : first_refusal (map (λ job. job.outcome) (into_iter_items l.job-iterator)) ≡ first_refusal (map (λ job. job.outcome) l.fn.jobs.items);
}
