use Rattle.g1_race.specs.{AreUnset, Writes}
use Rattle.g1_race.proofs.{InRows}
use Rattle.g1_race.proofs.paused.Writer.forget_cards.Given as goal

abbrev pub invariant-loop-region : goal.invariant-loop-region
invariant-loop-region l = Writes l.fn.self l.self (λ heap old new. AreUnset heap old new (InRows l.first l.end l.region))
