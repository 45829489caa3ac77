use Rattle.g1_trace.specs.{decimal}
use Rattle.g1_trace.proofs.{puts_failed, first_of_three, second_of_three, three_parts}
use Rattle.g1_trace.proofs.output.put_between.Goals as goal

pub returns-in_err-put : goal.returns-in_err-put
returns-in_err-put g c = puts_failed _ _ c.from_residual.result _ c.from_residual.ensures.0 (first_of_three _ _ c.args.before.now (decimal c.args.number) c.args.behind.now c.in_err-put.ensures)

pub returns-in_err-put_number : goal.returns-in_err-put_number
returns-in_err-put_number g c =
    puts_failed _ _ c.from_residual-in_err-put_number.result _ c.from_residual-in_err-put_number.ensures.0
    (second_of_three _ _ _ c.args.before.now (decimal c.args.number) c.args.behind.now c.in_ok-put.ensures c.in_err-put_number.ensures)

pub returns : goal.returns
returns g c = three_parts _ _ _ _ c.put-2.result c.args.before.now (decimal c.args.number) c.args.behind.now c.in_ok-put.ensures c.in_ok-put_number.ensures c.put-2.ensures
