use Rattle.g1_replay.proofs.{book_written, job_refused}
use Rattle.g1_replay.proofs.crews.output.put_crew.Goals as goal

pub returns-in-Some : goal.returns-in-Some
returns-in-Some g c commands many =
    rw (c.in-Some.is, c.crew_stop.ensures.stop) (rw c.requires.limit at (job_refused commands c.args.book.now c.in-Some.refusal (g.W.Write.contents c.args.output.now) c.crew_stop.ensures.history))

pub returns : goal.returns
returns g c commands many =
    let drained = rw c.layout-layout.ensures.layout at c.put_left-result.ensures.drained in
    rw c.in_default.is (rw c.requires.limit at (book_written commands c.args.book.now c.put_left-result.new.left _ _ _ c.put_left-result.result c.put_left-result.ensures.stops c.entries-history.ensures.history c.requires.stores (many c.in_default.is) drained))
