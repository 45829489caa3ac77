use Rattle.std.specs.Prelude.{◌≡◌, ◌<◌, ◌≤◌, ◌+◌, ◌-◌, ◌^◌, ◌++◌}
use Rattle.g1_trace.specs.{ℕ, length, drop, decimal, ap, ◌∙◌, sym, append_assoc, length-set, rules, arith, list_text}
use Rattle.g1_trace.proofs.{ten_digits, one_in_front}
use Rattle.g1_trace.proofs.list.list_before.Goals as goal

pub write_digits-start-requires : goal.write_digits-start-requires
write_digits-start-requires c =
    let small : c.from.result < 2 ^ 32 = omega arith in
    let ten : length (decimal c.from.result) ≤ 10 = ten_digits c.from.result small in
    (omega arith, c.loop-left.invariant.within)

pub overflow_sub-start : goal.overflow_sub-start
overflow_sub-start c =
    let small : c.from.result < 2 ^ 32 = omega arith in
    let ten : length (decimal c.from.result) ≤ 10 = ten_digits c.from.result small in
    omega (arith, c.write_digits-start.ensures.start)

pub loop-left-preserved : goal.loop-left-preserved
loop-left-preserved c =
    let n = c.index-cards-left.result in
    let start = c.write_digits-start.result in
    let left = c.loop-left.left in
    let is : c.from.result ≡ n = c.from.ensures ∙ c.number.ensures in
    let small : n < 2 ^ 32 = omega arith in
    let ten : length (decimal n) ≤ 10 = ten_digits n small in
    let digits : start + length (decimal n) ≡ c.loop-left.start = rw is at c.write_digits-start.ensures.start in
    let text : drop start c.write_digits-start.new.buf ≡ decimal n ++ list_text (drop left c.args.cards.now) ++ drop c.args.end c.args.block.now =
    (rw is at c.write_digits-start.ensures.written) ∙ ap (λ l. decimal n ++ l) c.loop-left.invariant.text
    ∙ sym (append_assoc (decimal n) (list_text (drop left c.args.cards.now)) (drop c.args.end c.args.block.now)) in
    let same : length c.write_digits-start.new.buf ≡ length c.loop-left.block = search rules in
    let within : start ≤ length c.write_digits-start.new.buf = omega arith in
    record {
      text = one_in_front c.write_digits-start.new.buf c.args.cards.now (drop c.args.end c.args.block.now) (start - 1) start left (left - 1) n (omega arith) (omega arith) within (omega arith) c.index-cards-left.is text;
      taken = omega arith;
      room = omega arith;
      within = omega (arith, length-set {A = ℕ});
      left = omega arith;
    }
