use Rattle.std.specs.Prelude.{◌≡◌, ◌≤◌, ◌+◌}
use Rattle.g1_sets.specs.{take, length, spare, with_cards}
use Rattle.g1_sets.proofs.members.insert_cards.Given as goal

abbrev pub invariant-loop-card : goal.invariant-loop-card
invariant-loop-card l = record {
  cards : l.members.keys ≡ with_cards l.fn.members.keys (take l.card-index l.cards);
  room : length l.cards ≤ spare l.members + l.card-index;
}
