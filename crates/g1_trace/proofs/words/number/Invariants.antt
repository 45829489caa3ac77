use Rattle.std.specs.Prelude.{◌≡◌, ◌<◌, ◌^◌}
use Rattle.g1_trace.specs.{drop, read_digits}
use Rattle.g1_trace.proofs.words.number.Given as goal

-- what is left, read after the digits so far, is the whole
abbrev pub invariant-loop-byte : goal.invariant-loop-byte
invariant-loop-byte l = record {
  told : read_digits l.value (drop l.byte-index l.word) ≡ read_digits 0 l.word;
  small : l.value < 10 ^ l.byte-index;
}
