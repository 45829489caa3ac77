use Rattle.g1_race_words.proofs.{seek_owed}
use Rattle.g1_race_words.proofs.table.RaceTable.seek.Goals as goal

pub load-requires : goal.load-requires
load-requires c =
    let asked = rw (← c.self.view_is, ← c.seat.view_is) at c.requires in
    seek_owed _ _ c.self.invariant.0 c.self.invariant.2 c.seat.inside.seat asked.table c.args.word asked.sweeper asked.pair.0 asked.pair.1
