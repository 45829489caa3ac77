use Rattle.std.specs.Prelude.{◌≡◌, ◌≤◌, ◌+◌, ◌*◌, ◌++◌}
use Rattle.g1_trace.specs.{length, drop, list_text}
use Rattle.g1_trace.proofs.list.list_before.Given as goal

-- the text of the cards from `left` on stands in front of what stood there, with room before it for the others
abbrev pub invariant-loop-left : goal.invariant-loop-left
invariant-loop-left l = record {
  text : drop l.start l.block ≡ list_text (drop l.left l.cards) ++ drop l.end l.fn.block;
  taken : l.end + 11 * l.left ≤ l.start + 11 * length l.cards;
  room : 11 * l.left ≤ l.start;
  within : l.start ≤ length l.block;
  left : l.left ≤ length l.cards;
}

abbrev pub decreases-loop-left : goal.decreases-loop-left
decreases-loop-left l = l.left
