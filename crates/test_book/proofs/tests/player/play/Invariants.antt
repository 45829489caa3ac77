use Rattle.std.proofs.Common.{All}
use Rattle.g1_shared.specs.Callers.{IsCallerOf}
use Rattle.test_book.proofs.tests.player.play.Given as goal

abbrev pub invariant-loop-turn : goal.invariant-loop-turn
invariant-loop-turn g l = All (IsCallerOf l.shared) l.callers
