use Rattle.std.proofs.Common.{subst}
use Rattle.g1_history.specs.History.{AnswersExactly}
use Rattle.demo.proofs.under_a_lock.drain.Goals as goal

pub returns-clause-exact : goal.returns-clause-exact
returns-clause-exact g c = subst (AnswersExactly c.args.book.now c.args.region) c.in-Cards.is c.in_ok-cards.ensures.exact
