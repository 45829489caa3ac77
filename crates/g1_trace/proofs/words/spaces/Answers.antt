use Rattle.g1_trace.proofs.{space_more}
use Rattle.g1_trace.proofs.words.spaces.Goals as goal

pub loop-i-preserved : goal.loop-i-preserved
loop-i-preserved c = space_more _ _ c.loop-i-test.true c.if-byte-ne32.false c.loop-i.invariant
