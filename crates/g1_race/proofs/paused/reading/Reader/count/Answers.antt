-- The count rises by one at each card that is found.
use Rattle.g1_race.specs.{ap, ◌∙◌, arith, is_sought}
use Rattle.g1_race.proofs.{count_end, count_on}
use Rattle.g1_race.proofs.paused.reading.Reader.count.Goals as goal

pub loop-card-preserved : goal.loop-card-preserved
loop-card-preserved c = let i = c.loop-card.invariant in record {
  same = c.next_sought.ensures.same ∙ i.same;
  within = omega (arith, c.in-Some.ensures.next.1);
  counted = count_on (is_sought c.args.sought c.args.race.now.shape) c.args.race.now.shape.cards c.loop-card.from (ap (λ r. r.start.words) i.same) c.in-Some.card c.loop-card.count c.in-Some.ensures.next i.counted;
}

pub returns-clause-count : goal.returns-clause-count
returns-clause-count c = let i = c.loop-card.invariant in count_end (is_sought c.args.sought c.args.race.now.shape) c.args.race.now.shape.cards c.loop-card.from (ap (λ r. r.start.words) i.same) c.loop-card.count i.within c.in_default.ensures.next i.counted
