use Rattle.std.specs.Prelude.{◌≡◌, ◌++◌}
use Rattle.g1_trace.specs.{codes, rules, with_number, fault_text}
use Rattle.g1_trace.proofs.{puts_failed, first_of_three, second_of_three, three_parts}
use Rattle.g1_trace.proofs.print.ends.put_fault.Goals as goal

pub returns-in_err-put_between : goal.returns-in_err-put_between
returns-in_err-put_between g c =
    puts_failed _ _ c.from_residual.result _ c.from_residual.ensures.0
    (first_of_three _ _ (with_number (codes "line ") c.args.number ++ codes ": ") (fault_text c.args.fault) (codes "\n") c.in_err-put_between.ensures)

pub returns-in_err-put : goal.returns-in_err-put
returns-in_err-put g c =
    let text : c.as_bytes.result.now ≡ fault_text c.args.fault = search rules in
    puts_failed _ _ c.from_residual-in_err-put.result _ c.from_residual-in_err-put.ensures.0
    (second_of_three _ _ _ (with_number (codes "line ") c.args.number ++ codes ": ") (fault_text c.args.fault) (codes "\n") c.in_ok-put_between.ensures (rw text at c.in_err-put.ensures))

pub returns : goal.returns
returns g c =
    let text : c.as_bytes.result.now ≡ fault_text c.args.fault = search rules in
    three_parts _ _ _ _ c.put-2.result (with_number (codes "line ") c.args.number ++ codes ": ") (fault_text c.args.fault) (codes "\n")
    c.in_ok-put_between.ensures (rw text at c.in_ok-put.ensures) c.put-2.ensures
