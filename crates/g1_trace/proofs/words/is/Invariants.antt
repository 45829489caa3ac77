use Rattle.std.specs.Prelude.{◌≡◌}
use Rattle.g1_trace.specs.{drop, bytes_eq}
use Rattle.g1_trace.proofs.words.is.Given as goal

-- what is left decides
abbrev pub invariant-loop-i : goal.invariant-loop-i
invariant-loop-i l = bytes_eq (drop l.i l.word) (drop l.i l.text) ≡ bytes_eq l.word l.text
