use Rattle.g1_race_words.proofs.{spot_owed}
use Rattle.g1_race_words.proofs.table.RaceTable.spot.Goals as goal

pub load-requires : goal.load-requires
load-requires c =
    let asked = rw (← c.self.view_is, ← c.seat.view_is) at c.requires in
    spot_owed _ _ c.self.invariant.0 c.self.invariant.2 c.seat.inside.seat asked.table c.args.word asked.racer asked.flag.0 asked.flag.1
