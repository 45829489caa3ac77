use Rattle.g1_trace.proofs.{word_more}
use Rattle.g1_trace.proofs.words.word_len.Goals as goal

pub loop-i-preserved : goal.loop-i-preserved
loop-i-preserved c = word_more _ _ c.loop-i-test.true c.if-byte-eq32.false c.loop-i.invariant
