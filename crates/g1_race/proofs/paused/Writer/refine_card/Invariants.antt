use Rattle.std.specs.Prelude.{◌≤◌}
use Rattle.g1_race.specs.{Notes, card_pairs, Writes, heap_of}
use Rattle.g1_race.proofs.paused.Writer.refine_card.Given as goal

abbrev pub invariant-loop-i : goal.invariant-loop-i
invariant-loop-i l = record {
  notes : Writes l.fn.self l.self (λ heap old new. Notes heap old new (card_pairs heap old l.card l.i));
  below : l.i ≤ (heap_of l.fn.self).size;
}
