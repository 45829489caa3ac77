use Rattle.g1_race.specs.{take, Notes, Writes}
use Rattle.g1_race.proofs.paused.Writer.place_pairs.Given as goal

abbrev pub invariant-loop-pair : goal.invariant-loop-pair
invariant-loop-pair l = Writes l.fn.self l.self (λ heap old new. Notes heap old new (take l.pair-index l.pairs))
