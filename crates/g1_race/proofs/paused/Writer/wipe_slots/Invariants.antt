use Rattle.std.specs.Prelude.{◌⊎◌, ◌≤◌, ◌≡◌, ◌+◌, ◌<◌}
use Rattle.g1_race.specs.{ℕ, some, get_elem?, ended, table_of, nulled, RaisesOnly, Writes, words_of, heap_of}
use Rattle.g1_race.proofs.paused.Writer.wipe_slots.Given as goal

abbrev pub invariant-loop-i : goal.invariant-loop-i
invariant-loop-i l = record {
  table : table_of (ended l.fn.self.race.now.layout (heap_of l.fn.self) (words_of l.self)) ≡ nulled l.first l.i (table_of (ended l.fn.self.race.now.layout (heap_of l.fn.self) (words_of l.fn.self)));
  null : Writes l.fn.self l.self (λ heap old new. (j : ℕ) → j < l.i → get_elem? new (l.first + j) ≡ some 0);
  flags : RaisesOnly (λ card. ⊥) (heap_of l.fn.self) (words_of l.fn.self) (words_of l.self);
  other : (p : ℕ) → (p < l.first) ⊎ (l.first + l.i ≤ p) → get_elem? (words_of l.self) p ≡ get_elem? (words_of l.fn.self) p;
}
