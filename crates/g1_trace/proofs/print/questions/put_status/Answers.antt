use Rattle.std.specs.Prelude.{◌≡◌, ◌++◌}
use Rattle.g1_trace.specs.{drop, length, codes, ap, sym, ◌∙◌, append_assoc, rules, with_number}
use Rattle.g1_trace.proofs.{puts_behind}
use Rattle.g1_trace.proofs.print.questions.put_status.Goals as goal

pub returns : goal.returns
returns g c =
    let pending = with_number (codes "status pending ") c.args.status.pending in
    let recorded = with_number (codes " recorded ") c.args.status.recorded in
    let is : c.from.result ≡ c.args.status.recorded = search rules in
    let first : c.from-2.result ≡ c.args.status.pending = search rules in
    let behind : drop c.counted_before-middle.result c.counted_before-middle.new.block ≡ recorded ++ codes "\n" =
    (rw is at c.counted_before-middle.ensures.text) ∙ ap (λ l. recorded ++ l) c.ending_at_end-end.ensures.text in
    let text : drop c.counted_before-start.result c.counted_before-start.new.block ≡ pending ++ (recorded ++ codes "\n") =
    (rw first at c.counted_before-start.ensures.text) ∙ ap (λ l. pending ++ l) behind in
    let long : length c.counted_before-start.new.block ≡ 72 = search rules in
    puts_behind _ _ c.put.result c.counted_before-start.new.block _ c.counted_before-start.result 72 long
    (text ∙ sym (append_assoc pending recorded (codes "\n"))) c.put.ensures
