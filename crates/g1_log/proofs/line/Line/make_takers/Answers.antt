use Rattle.g1_log.specs.{arith, view}
use Rattle.g1_log.proofs.{forks_taker}
use Rattle.g1_log.proofs.line.Line.make_takers.Goals as goal

pub another-pass-requires-clause-rule : goal.another-pass-requires-clause-rule
another-pass-requires-clause-rule c =
    let i = c.loop.invariant in let n = c.requires.count in let t = c.loop-test.true in
    forks_taker _ (view c.loop.maker_pass).rights (view c.loop.maker_pass).made _ i.maker_is (omega (arith, i.rights, i.left, i.count))
