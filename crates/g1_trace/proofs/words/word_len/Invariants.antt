use Rattle.std.specs.Prelude.{◌≡◌}
use Rattle.g1_trace.specs.{[], take, drop, words_from}
use Rattle.g1_trace.proofs.words.word_len.Given as goal

-- what has come belongs to the first word
abbrev pub invariant-loop-i : goal.invariant-loop-i
invariant-loop-i l = words_from [] l.bytes ≡ words_from (take l.i l.bytes) (drop l.i l.bytes)
