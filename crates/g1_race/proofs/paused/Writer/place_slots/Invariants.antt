use Rattle.std.specs.Prelude.{◌≡◌, ◌≤◌}
use Rattle.g1_race.specs.{reads_after, ArePlaced, RaisesOnly, Writes, heap_of, words_of}
use Rattle.g1_race.proofs.paused.Writer.place_slots.Given as goal

abbrev pub invariant-loop-number : goal.invariant-loop-number
invariant-loop-number l = record {
  below : l.number ≤ (heap_of l.fn.self).slots;
  flags : RaisesOnly (λ card. ⊥) (heap_of l.fn.self) (words_of l.fn.self) (words_of l.self);
  slots : Writes l.fn.self l.self (λ heap old new. ArePlaced heap l.fn.core.state.table old new l.number);
  state : l.core.state ≡ l.fn.core.state;
  settings : l.core.settings ≡ l.fn.core.settings;
  reads : l.core.reads ≡ reads_after l.fn.core.reads l.number;
}
