use Rattle.g1_race_words.proofs.{split_racer_owed}
use Rattle.g1_race_words.proofs.table.RaceTable.split_racer.Goals as goal

pub split_seat-requires : goal.split_seat-requires
split_seat-requires c =
    let asked = rw (← c.self.view_is, ← c.pause_seat.view_is) at c.requires in
    split_racer_owed _ _ c.self.invariant.0 c.self.invariant.2 c.pause_seat.inside.seat asked.table asked.whole
