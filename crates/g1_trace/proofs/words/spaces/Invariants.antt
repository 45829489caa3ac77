use Rattle.std.specs.Prelude.{◌≡◌}
use Rattle.g1_trace.specs.{[], drop, words_from}
use Rattle.g1_trace.proofs.words.spaces.Given as goal

-- spaces so far
abbrev pub invariant-loop-i : goal.invariant-loop-i
invariant-loop-i l = words_from [] (drop l.i l.bytes) ≡ words_from [] l.bytes
