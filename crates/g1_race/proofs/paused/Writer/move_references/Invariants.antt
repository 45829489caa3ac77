use Rattle.std.specs.Prelude.{◌≡◌, ◌*◌, ◌-◌, ◌≤◌}
use Rattle.g1_race.specs.{Writes, AreMoved, into_count, words_of, heap_of}
use Rattle.g1_race.proofs.paused.Writer.move_references.Given as goal

abbrev pub invariant-loop-card : goal.invariant-loop-card
invariant-loop-card l = record {
  within : l.next ≤ (heap_of l.fn.self).cards;
  moved : Writes l.fn.self l.self (λ heap old new. AreMoved heap old new l.from l.to 0 (l.next * heap.size));
  counted : l.count ≡ into_count (heap_of l.fn.self) (words_of l.fn.self) l.from 0 (l.next * (heap_of l.fn.self).size);
  few : l.count ≤ l.next * (heap_of l.fn.self).size;
}

abbrev pub decreases-loop-card : goal.decreases-loop-card
decreases-loop-card l = (heap_of l.fn.self).cards - l.next
