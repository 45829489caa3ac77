use Rattle.g1_shared.specs.Callers.{IsCallerOf}
use Rattle.test_book.proofs.tests.threads.call_each.Given as goal

abbrev pub invariant-loop-turn : goal.invariant-loop-turn
invariant-loop-turn g l = IsCallerOf l.shared l.caller
