use Rattle.std.specs.Prelude.{◌≡◌, ◌<◌}
use Rattle.g1_trace.specs.{length, take, slice_index_or, arith, rules}
use Rattle.std.proofs.Common.{length-take-le}
use Rattle.g1_trace.proofs.{number_apart}
use Rattle.g1_trace.proofs.plain.number_before.Goals as goal

pub returns-clause-number : goal.returns-clause-number
returns-clause-number c =
    let digits = c.leading_digits-count.ensures in
    let count = c.leading_digits-count.result.0 in
    let long : length (take 8 c.args.bytes.now) ≡ 8 = length-take-le 8 c.args.bytes.now c.requires in
    let below : count < 8 = omega (arith, digits.bound, long) in
    let ends : slice_index_or c.args.bytes.now count 0 ≡ c.args.end = search rules in
    number_apart c.args.bytes.now (take 8 c.args.bytes.now) c.split_at.result.1.now c.args.end count 8 c.leading_digits-count.result.1 (search rules) c.requires below (omega arith) (omega arith)
    digits.value ends c.split_at.ensures.back
