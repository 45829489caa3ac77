-- No card of the sets is before the one that is looked at, whose block's words are read.
use Rattle.g1_race.specs.{ap, arith}
use Rattle.g1_race.proofs.{any_found}
use Rattle.g1_race.proofs.paused.reading.Reader.next_in_rows.Goals as goal

pub returns-then-next-cards-clause-next : goal.returns-then-next-cards-clause-next
returns-then-next-cards-clause-next c =
    let i = c.loop-card.invariant in
    any_found c.args.race.now.shape (ap (λ r. r.start.words) i.same) c.args.regions.now c.args.from c.loop-card.card c.joined.result c.joined.ensures.bits i.none c.if-rest-ne0.true (omega arith) _ i.past c.if-next-cards.true
