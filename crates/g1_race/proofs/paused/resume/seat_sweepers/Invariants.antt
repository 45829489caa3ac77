use Rattle.std.specs.Prelude.{◌≡◌, ◌-◌}
use Rattle.g1_race.specs.{[], vec_len, AllWithin, start_of, whole_seat, IsNewSweeper}
use Rattle.g1_race.proofs.paused.resume.seat_sweepers.Given as goal

abbrev pub invariant-loop-i : goal.invariant-loop-i
invariant-loop-i l = record {
  seat : l.pause_seat.table_id ≡ l.fn.pause_seat.table_id;
  view : l.pause_seat.me ≡ (whole_seat (start_of l.fn.pause_seat.me.0) (l.fn.pause_seat.me.0.weight - l.i), []);
  len : vec_len l.sweepers ≡ vec_len l.fn.sweepers;
  seated : AllWithin (IsNewSweeper l.table.table_id (start_of l.fn.pause_seat.me.0)) l.sweepers.items 0 l.i;
}
