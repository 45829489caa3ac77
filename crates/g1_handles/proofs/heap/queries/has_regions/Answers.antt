-- One region more.
use Rattle.std.specs.Prelude.{◌<◌}
use Rattle.g1_handles.specs.{All-more}
use Rattle.g1_handles.proofs.heap.queries.has_regions.Goals as goal

pub loop-i-preserved : goal.loop-i-preserved
loop-i-preserved c =
    let at = rw c.in_ok-ok_or.ensures.ok_part at c.region.ensures in
    All-more (λ region. region < c.args.layout.regions) c.args.regions.now c.loop-i.i 0 c.loop-i-test.true c.loop-i.invariant at.0
