use Rattle.std.specs.Prelude.{◌≡◌}
use Rattle.g1_trace.specs.{rules}
use Rattle.g1_trace.proofs.print.pauses.put_clear_reply.Goals as goal

pub returns-in-StillReferenced : goal.returns-in-StillReferenced
returns-in-StillReferenced g c =
    let is : c.from-in-StillReferenced.result ≡ c.in-StillReferenced.slot = search rules in
    rw c.in-StillReferenced.is (rw is at c.put_between-in-StillReferenced.ensures)
