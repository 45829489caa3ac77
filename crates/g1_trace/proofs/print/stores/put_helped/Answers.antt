use Rattle.std.specs.Prelude.{◌≡◌, ◌++◌}
use Rattle.g1_trace.specs.{drop, length, codes, ap, ◌∙◌, rules, with_number, ending}
use Rattle.g1_trace.proofs.{puts_behind}
use Rattle.g1_trace.proofs.print.stores.put_helped.Goals as goal

pub returns : goal.returns
returns g c =
    let is : c.len.result ≡ length c.args.refined.now = search rules in
    let helped = with_number (codes "logged helped ") (length c.args.refined.now) in
    let text : drop c.counted_before-start.result c.counted_before-start.new.block ≡ helped ++ ending c.args.short =
    (rw is at c.counted_before-start.ensures.text) ∙ ap (λ l. helped ++ l) c.ending_at_end-end.ensures.text in
    let long : length c.counted_before-start.new.block ≡ 64 = search rules in
    puts_behind _ _ c.put.result c.counted_before-start.new.block _ c.counted_before-start.result 64 long text c.put.ensures
