use Rattle.g1_race_words.proofs.{thaw_owed}
use Rattle.g1_race_words.proofs.table.RaceTable.thaw.Goals as goal

pub load-requires : goal.load-requires
load-requires c =
    let asked = rw (← c.self.view_is, ← c.seat.view_is) at c.requires in
    thaw_owed _ _ c.self.invariant.0 c.self.invariant.2 c.seat.inside.seat asked.seat.here.table c.self.invariant.3 asked.seat
