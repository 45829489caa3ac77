use Rattle.g1_trace.proofs.{counted_word}
use Rattle.g1_trace.proofs.words.split_number.Goals as goal

pub returns-then-is_end-clause-some : goal.returns-then-is_end-clause-some
returns-then-is_end-clause-some c =
    let digits = c.leading_digits-count.ensures in
    counted_word c.args.line.now c.split_at.result.1.now _ _ c.spaces.result c.leading_digits-count.result.0 c.split_at.ensures.back c.spaces.ensures.passed
    c.if-count-gt0.true digits.bound digits.word (c.is_end.ensures c.if-is_end.true) c.split_at-then-is_end.ensures.front c.split_at-then-is_end.ensures.back
