use Rattle.std.specs.Prelude.{◌≡◌}
use Rattle.g1_trace.specs.{codes, rules, list_text}
use Rattle.g1_trace.proofs.{puts_failed, first_of_three, second_of_three, three_parts}
use Rattle.g1_trace.proofs.list.put_cards.Goals as goal

pub returns-in_err-put : goal.returns-in_err-put
returns-in_err-put g c = puts_failed _ _ c.from_residual.result _ c.from_residual.ensures.0 (first_of_three _ _ c.args.words.now (list_text c.args.cards.now) (codes "\n") c.in_err-put.ensures)

pub returns-in_err-put_list : goal.returns-in_err-put_list
returns-in_err-put_list g c =
    let is : c.as_slice-cards.result.now ≡ c.args.cards.now = search rules in
    puts_failed _ _ c.from_residual-in_err-put_list.result _ c.from_residual-in_err-put_list.ensures.0
    (second_of_three _ _ _ c.args.words.now (list_text c.args.cards.now) (codes "\n") c.in_ok-put.ensures (rw is at c.in_err-put_list.ensures))

pub returns : goal.returns
returns g c =
    let is : c.as_slice-cards.result.now ≡ c.args.cards.now = search rules in
    three_parts _ _ _ _ c.put-2.result c.args.words.now (list_text c.args.cards.now) (codes "\n") c.in_ok-put.ensures (rw is at c.in_ok-put_list.ensures) c.put-2.ensures
