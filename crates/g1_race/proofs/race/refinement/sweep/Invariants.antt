use Rattle.std.specs.Prelude.{◌≡◌, ◌+◌, ◌≤◌, ◌∷◌, if◌then◌else◌}
use Rattle.g1_race.specs.{length, IsSweepingCard, HasCleaned}
use Rattle.g1_race.proofs.race.refinement.sweep.Given as goal

abbrev pub invariant-loop-i : goal.invariant-loop-i
invariant-loop-i l = record {
  sweeping : IsSweepingCard l.race.table.table_id l.race.shape l.fn.seat.me.0 l.card l.i l.seat;
  clean : HasCleaned l.fn.seat.me.0 l.card l.was_dirty;
  below : l.i ≤ l.race.shape.size;
  cleaned : l.seat.me.0.cleanings ≡ (if l.was_dirty then l.card ∷ l.fn.seat.me.0.cleanings else l.fn.seat.me.0.cleanings);
  counted : length l.seat.me.0.pairs ≡ length l.fn.seat.me.0.pairs + l.references;
  few : l.references ≤ l.i;
}
