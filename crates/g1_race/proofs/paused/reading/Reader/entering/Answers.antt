-- No slot of a card before the one that is looked at refers into the region.
use Rattle.g1_race.specs.{ap}
use Rattle.g1_race.proofs.LeastInto.{least_found, none_left}
use Rattle.g1_race.proofs.paused.reading.Reader.entering.Goals as goal

pub returns-in-Some-entering_on-clause-least : goal.returns-in-Some-entering_on-clause-least
returns-in-Some-entering_on-clause-least c =
    let i = c.loop-card.invariant in
    least_found c.args.race.now.shape (ap (λ r. r.start.words) i.same) c.args.region c.loop-card.from c.begun.ensures c.requires.clean i.none c.in-Some.card c.in-Some.ensures.next (ap (λ r. r.start.words) c.next_in_row.ensures.same) c.in-Some-entering_on.slot c.in-Some-entering_on.ensures.least

pub returns-clause-least : goal.returns-clause-least
returns-clause-least c = let i = c.loop-card.invariant in none_left c.args.race.now.shape (ap (λ r. r.start.words) i.same) c.args.region c.loop-card.from c.begun.ensures c.requires.clean i.none c.in_default.ensures.next
