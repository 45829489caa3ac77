use Rattle.std.specs.Prelude.{◌≢◌}
use Rattle.g1_trace.specs.{arith, slice_index_or, sym}
use Rattle.g1_trace.proofs.{word_more, digit_more, value_more}
use Rattle.g1_trace.proofs.words.leading_digits.Goals as goal

pub loop-i-preserved : goal.loop-i-preserved
loop-i-preserved c =
    let digit = c.if-not-is_ascii_digit.ensures in
    let other : slice_index_or c.args.bytes.now c.loop-i.i 0 ≢ 32 = λ space. let low = digit.cases.0 in absurd (omega arith) in
    record {
      few = let below = c.if-i-ge-DIGIT_LIMIT.false in omega arith;
      small = rw c.from-digit.ensures (value_more c.loop-i.i c.loop-i.value _ c.loop-i.invariant.small (let high = digit.cases.1 in omega arith));
      told = rw c.from-digit.ensures (digit_more c.args.bytes.now c.loop-i.i c.loop-i.value c.loop-i-test.true (sym digit.value) c.loop-i.invariant.told);
      word = word_more c.args.bytes.now c.loop-i.i c.loop-i-test.true other c.loop-i.invariant.word;
    }
