use Rattle.std.specs.Prelude.{◌≡◌, ◌<◌, ◌*◌}
use Rattle.g1_core.specs.{take, All, card_count, list_at, AreRead, changes_of, slots_on, AreGaining}
use Rattle.g1_core.proofs.redirection.changes_into.Given as goal

abbrev pub invariant-loop-index : goal.invariant-loop-index
invariant-loop-index l = record {
  references : l.references.items ≡ changes_of l.fn.heap.layout l.fn.heap.refs l.from l.to (slots_on l.fn.heap.layout (take l.index (list_at l.sets.lists l.from)));
  cards : AreGaining l.fn.heap.layout l.fn.heap.refs l.from l.to (take l.index (list_at l.sets.lists l.from)) l.cards.items;
  within : All (λ card. card < card_count l.fn.heap.layout) l.cards.items;
  read : AreRead l.fn.heap l.heap (l.index * l.fn.heap.layout.slots);
}
