use Rattle.std.specs.Prelude.{◌≡◌, ◌*◌, ◌≤◌}
use Rattle.g1_race.specs.{Writes, AreMoved, into_count, words_of, heap_of}
use Rattle.g1_race.proofs.paused.Writer.move_on.Given as goal

abbrev pub invariant-loop-i : goal.invariant-loop-i
invariant-loop-i l = record {
  moved : Writes l.fn.self l.self (λ heap old new. AreMoved heap old new l.from l.to (l.card * heap.size) l.i);
  counted : l.count ≡ into_count (heap_of l.fn.self) (words_of l.fn.self) l.from (l.card * (heap_of l.fn.self).size) l.i;
  few : l.count ≤ l.i;
}
