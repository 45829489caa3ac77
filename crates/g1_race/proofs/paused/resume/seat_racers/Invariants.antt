use Rattle.std.specs.Prelude.{◌≡◌, ◌-◌}
use Rattle.g1_race.specs.{[], map, vec_len, AllWithin, start_of, whole_seat, racer_log, IsNewRacer}
use Rattle.g1_race.proofs.paused.resume.seat_racers.Given as goal

abbrev pub invariant-loop-i : goal.invariant-loop-i
invariant-loop-i l = record {
  seat : l.pause_seat.table_id ≡ l.fn.pause_seat.table_id;
  view : l.pause_seat.me ≡ (whole_seat (start_of l.fn.pause_seat.me.0) (l.fn.pause_seat.me.0.weight - l.i), []);
  len : vec_len l.racers ≡ vec_len l.fn.racers;
  seated : AllWithin (IsNewRacer l.table.table_id (start_of l.fn.pause_seat.me.0)) l.racers.items 0 l.i;
  logs : map racer_log l.racers.items ≡ map racer_log l.fn.racers.items;
}
