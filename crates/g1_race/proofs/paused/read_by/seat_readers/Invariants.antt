use Rattle.std.specs.Prelude.{◌≡◌, ◌+◌, ◌≤◌}
use Rattle.g1_race.specs.{All, vec_len, vec_capacity, start_of, IsAtPause, known}
use Rattle.g1_race.proofs.paused.read_by.seat_readers.Given as goal

abbrev pub invariant-loop-i : goal.invariant-loop-i
invariant-loop-i l = record {
  seat : IsAtPause l.table.table_id l.table.shape l.pause_seat;
  start : start_of l.pause_seat.me.0 ≡ start_of l.fn.pause_seat.me.0;
  weight : l.pause_seat.me.0.weight + l._i ≡ l.fn.pause_seat.me.0.weight;
  len : vec_len l.readers ≡ l._i;
  room : l.count ≤ vec_capacity l.readers;
  same : vec_capacity l.readers ≡ vec_capacity l.fn.readers;
  all : All (λ r. r ≡ known l.table.table_id (start_of l.fn.pause_seat.me.0)) l.readers.items;
}
