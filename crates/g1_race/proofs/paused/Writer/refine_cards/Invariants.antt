use Rattle.std.specs.Prelude.{◌≤◌, ◌-◌}
use Rattle.g1_race.specs.{AreRefined, Writes, heap_of}
use Rattle.g1_race.proofs.paused.Writer.refine_cards.Given as goal

abbrev pub invariant-loop-card : goal.invariant-loop-card
invariant-loop-card l = record {
  within : l.from ≤ (heap_of l.fn.self).cards;
  refined : Writes l.fn.self l.self (λ heap old new. AreRefined heap old new l.from);
}

abbrev pub decreases-loop-card : goal.decreases-loop-card
decreases-loop-card l = (heap_of l.fn.self).cards - l.from
