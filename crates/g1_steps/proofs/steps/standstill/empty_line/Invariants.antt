use Rattle.g1_steps.specs.{taken_of, IsSameTaker}
use Rattle.g1_steps.proofs.{GainsJust}
use Rattle.g1_steps.proofs.steps.standstill.empty_line.Given as goal

abbrev pub invariant-loop-turn : goal.invariant-loop-turn
invariant-loop-turn g l = GainsJust (taken_of l.initial.taker) l.turn (taken_of l.taker) × IsSameTaker l.taker l.initial.taker
