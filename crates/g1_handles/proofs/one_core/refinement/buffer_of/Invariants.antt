-- The list has the first i cards, which are of the heap.
use Rattle.std.specs.Prelude.{◌≡◌, ◌<◌}
use Rattle.g1_handles.specs.{All, card_count, take}
use Rattle.g1_handles.proofs.one_core.refinement.buffer_of.Given as goal

abbrev pub invariant-loop-i : goal.invariant-loop-i
invariant-loop-i l = (l.list.items ≡ take l.i l.cards) × All (λ card. card < card_count l.layout) (take l.i l.cards)
