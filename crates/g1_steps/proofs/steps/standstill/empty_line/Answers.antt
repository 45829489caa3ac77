use Rattle.g1_steps.specs.{rules, refl, arith, IsNone}
use Rattle.g1_steps.proofs.{empties_found, took_none}
use Rattle.g1_steps.proofs.steps.standstill.empty_line.Goals as goal

pub returns-then-is_none-clause-emptied : goal.returns-then-is_none-clause-emptied
returns-then-is_none-clause-emptied g c =
    let none : IsNone c.take.result = search rules in
    let took = took_none c.take.result _ _ none c.take.ensures.taken in
    empties_found _ _ _ c.loop-turn.taker c.loop-turn.turn _ c.loop-turn.invariant.0
    (omega (arith, c.loop-turn-test.true, c.capacity-turn-end.ensures.capacity)) refl took.1 took.0
