use Rattle.std.specs.Prelude.{◌≡◌, ◌+◌}
use Rattle.g1_race.specs.{All, vec_len, vec_capacity, start_of, IsAtPause, known}
use Rattle.g1_race.proofs.paused.read_by.join_readers.Given as goal

abbrev pub invariant-loop-reader : goal.invariant-loop-reader
invariant-loop-reader l = record {
  seat : IsAtPause l.table.table_id l.table.shape l.pause_seat;
  start : start_of l.pause_seat.me.0 ≡ start_of l.fn.pause_seat.me.0;
  weight : l.pause_seat.me.0.weight + vec_len l.readers ≡ l.fn.pause_seat.me.0.weight + vec_len l.fn.readers;
  capacity : vec_capacity l.readers ≡ vec_capacity l.fn.readers;
  all : All (λ r. r ≡ known l.table.table_id (start_of l.fn.pause_seat.me.0)) l.readers.items;
}

abbrev pub decreases-loop-reader : goal.decreases-loop-reader
decreases-loop-reader l = vec_len l.readers
