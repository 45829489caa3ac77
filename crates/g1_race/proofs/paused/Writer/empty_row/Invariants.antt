use Rattle.g1_race.specs.{IsEmptied, Writes}
use Rattle.g1_race.proofs.paused.Writer.empty_row.Given as goal

abbrev pub invariant-loop-i : goal.invariant-loop-i
invariant-loop-i l = Writes l.fn.self l.self (λ heap old new. IsEmptied heap old new l.region l.i)
