use Rattle.std.specs.Prelude.{◌≤◌}
use Rattle.g1_race.specs.{AreMarked, IsPending, RaisesOnly, Writes, heap_of, words_of}
use Rattle.g1_race.proofs.paused.Writer.place_marks.Given as goal

abbrev pub invariant-loop-number : goal.invariant-loop-number
invariant-loop-number l = record {
  below : l.number ≤ (heap_of l.fn.self).cards;
  flags : RaisesOnly (IsPending l.core.state.table) (heap_of l.fn.self) (words_of l.fn.self) (words_of l.self);
  marks : Writes l.fn.self l.self (λ heap old new. AreMarked heap l.core.state.table old new l.number);
}
