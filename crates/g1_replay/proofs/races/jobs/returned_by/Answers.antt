use Rattle.std.specs.Prelude.{◌∷◌, ◌++◌}
use Rattle.g1_replay.specs.{List, [], map, subst, arith, length-map, into_iter_items, Party, HasBack}
use Rattle.g1_replay.proofs.{all_moved, next_behind}
use Rattle.g1_replay.proofs.RanRaceLemmas.{first_left}
use Rattle.g1_replay.proofs.races.jobs.returned_by.Goals as goal

pub loop-job-preserved : goal.loop-job-preserved
loop-job-preserved g c = record {
  back = (c.loop-job.invariant.back.0 ++ c.into_party.result ∷ [], c.in_ok-place.ensures _ c.loop-job.invariant.back.1, next_behind (λ job. job.desk.party) _ _ _ _ _ _ c.in-Some.ensures.steps.0 c.into_party.ensures c.loop-job.invariant.back.2);
  whole = first_left (λ job. job.outcome) _ _ _ _ c.in-Some.ensures.steps.0 c.in-None-refusal_of.ensures c.loop-job.invariant.whole;
}

pub loop-job-preserved-in_ok-place : goal.loop-job-preserved-in_ok-place
loop-job-preserved-in_ok-place g c = record {
  back = (c.loop-job.invariant.back.0 ++ c.into_party.result ∷ [], c.in_ok-place.ensures _ c.loop-job.invariant.back.1, next_behind (λ job. job.desk.party) _ _ _ _ _ _ c.in-Some.ensures.steps.0 c.into_party.ensures c.loop-job.invariant.back.2);
  whole = first_left (λ job. job.outcome) _ _ _ _ c.in-Some.ensures.steps.0 c.in-None-refusal_of.ensures c.loop-job.invariant.whole;
}

-- no job is back at first
-- and none is left at the end
pub returns-clause-back : goal.returns-clause-back
returns-clause-back g c =
    let was = c.loop-job.invariant.back in
    let left = into_iter_items c.loop-job.job-iterator in
    let none = length-map left (λ job. job.desk.party) in
    subst (λ (ms : List Party). HasBack ms c.loop-job.returned) (all_moved was.0 (map (λ job. job.desk.party) left) _ (omega (arith, none, c.in-None.ensures.steps.0, c.loop-job.job-iterator.rest.ok.0)) was.2) was.1
