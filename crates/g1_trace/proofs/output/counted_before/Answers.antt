use Rattle.std.specs.Prelude.{◌≤◌}
use Rattle.g1_trace.specs.{length, decimal, arith}
use Rattle.g1_trace.proofs.{twenty_digits}
use Rattle.g1_trace.proofs.output.counted_before.Goals as goal

pub write_digits-digits-requires : goal.write_digits-digits-requires
write_digits-digits-requires c =
    let few : length (decimal c.args.number) ≤ 20 = twenty_digits c.args.number (omega arith) in
    let room = c.requires.room in
    (omega arith, c.requires.within)

pub words_before-requires-clause-room : goal.words_before-requires-clause-room
words_before-requires-clause-room c =
    let few : length (decimal c.args.number) ≤ 20 = twenty_digits c.args.number (omega arith) in
    let room = c.requires.room in
    let start = c.write_digits-digits.ensures.start in
    omega arith

pub returns-clause-room : goal.returns-clause-room
returns-clause-room c =
    let few : length (decimal c.args.number) ≤ 20 = twenty_digits c.args.number (omega arith) in
    let start = c.write_digits-digits.ensures.start in
    let words = c.words_before.ensures.start in
    omega arith
