use Rattle.std.specs.Prelude.{◌≡◌, ◌≤◌, ◌<◌, ◌^◌}
use Rattle.g1_trace.specs.{[], take, drop, Ok, words_from, read_digits}
use Rattle.g1_trace.proofs.words.leading_digits.Given as goal

-- the digits so far belong to the first word
abbrev pub invariant-loop-i : goal.invariant-loop-i
invariant-loop-i l = record {
  few : l.i ≤ 10;
  small : l.value < 10 ^ l.i;
  told : read_digits 0 (take l.i l.bytes) ≡ Ok l.value;
  word : words_from [] l.bytes ≡ words_from (take l.i l.bytes) (drop l.i l.bytes);
}
