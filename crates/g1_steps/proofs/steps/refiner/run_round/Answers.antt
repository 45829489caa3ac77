use Rattle.g1_steps.specs.{true, inl, arith, rules, ap, length, RefineReply}
use Rattle.g1_steps.proofs.RoundLemmas.{round_goes_on, round_ends, round_refused, round_stops}
use Rattle.g1_steps.proofs.steps.refiner.run_round.Goals as goal

pub loop-turn-preserved : goal.loop-turn-preserved
loop-turn-preserved g c = (
  round_goes_on _ g.met.C.Calls.then _ _ _ _ _ _ _ _ c.loop-turn.invariant.0 c.in-Ok-true.field-0-test c.in-Ok-true.ensures.room c.in-Ok-true.ensures.next,
  (λ none. absurd (omega (arith, none))),
  (omega arith, omega arith, omega arith, search rules),
  search rules,
)

pub returns-in-Ok-false-clause-round : goal.returns-in-Ok-false-clause-round
returns-in-Ok-false-clause-round g c = round_ends _ g.met.C.Calls.then _ _ _ _ _ _ _ _ _ c.loop-turn.invariant.0 c.loop-turn-test.true c.in-Ok-false.field-0-test c.in-Ok-false.ensures.next

pub returns-in-Err-clause-round : goal.returns-in-Err-clause-round
returns-in-Err-clause-round g c =
    round_refused _ g.met.C.Calls.then _ _ _ _ _ _ _ _ _ _ _ c.loop-turn.invariant.0 (omega (arith, c.if-turn-eq0.false)) c.loop-turn-test.true
    (λ lacks. omega (arith, lacks, c.next_of_round.ensures.capacity, ap (λ (q : RefineReply). length q.refined) c.in-Err.ensures.err.1)) c.in-Err.ensures.err.0
    (λ i. let was = c.in-Err.ensures.err.1 i in record { taken = was.taken; refined = was.refined; hot = was.hot; skipped = was.skipped; left = was.left; short = true })

pub returns-clause-round : goal.returns-clause-round
returns-clause-round g c = round_stops _ _ _ _ _ _ _ _ c.loop-turn.invariant.0 (omega arith) (inl (omega arith))
