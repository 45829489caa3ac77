-- No card of the set is before the one that is looked at, whose word is read.
use Rattle.g1_race.specs.{ap, arith}
use Rattle.g1_race.proofs.{next_found}
use Rattle.g1_race.proofs.paused.reading.Reader.next_in_row.Goals as goal

pub returns-then-next-end-clause-next : goal.returns-then-next-end-clause-next
returns-then-next-end-clause-next c =
    let i = c.loop-card.invariant in
    next_found c.args.race.now.shape (ap (λ r. r.start.words) i.same) c.args.from c.loop-card.card c.args.region c.bit_of-at.result.0 c.bit_of-at.result.1 c.see.result c.bit_of-at.ensures.word c.bit_of-at.ensures.index c.see.ensures.word i.none
    c.if-rest-ne0.true (omega arith) c.args.end i.past c.if-next-end.true
