use Rattle.std.specs.Prelude.{◌≡◌, ◌≢◌, ◌<◌}
use Rattle.g1_replay.specs.{length, subst, arith, ReadsByte, Byte}
use Rattle.g1_replay.proofs.{byte_more}
use Rattle.g1_replay.proofs.lines.line.settle_byte.Goals as goal

pub returns-in-Some-2-clause-settled : goal.returns-in-Some-2-clause-settled
returns-in-Some-2-clause-settled c = λ begun old new read one byte.
    let same : c.in-Some.field-0 ≡ c.in-Some-2.byte = cc in
    let differs : c.in-Some-2.byte ≢ 10 = λ e. c.in-Some.field-0-test.1 (cc (c.in-Some.field-0-is, same, e)) in
    let room : length c.args.line.now.items < 64 = omega (arith, c.len.ensures.value) in
    rw c.push.ensures.items (byte_more begun old new c.args.line.now.items c.in-Some-2.byte read one room differs (subst (λ (b : Byte). ReadsByte old new b) c.in-Some-2.is byte))
