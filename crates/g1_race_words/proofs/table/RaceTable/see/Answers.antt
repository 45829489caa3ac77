use Rattle.g1_race_words.proofs.{see_owed}
use Rattle.g1_race_words.proofs.table.RaceTable.see.Goals as goal

pub load-requires : goal.load-requires
load-requires c =
    let asked = rw (← c.self.view_is, ← c.seat.view_is) at c.requires in
    see_owed _ _ c.self.invariant.0 c.self.invariant.2 c.seat.inside.seat asked.seat.table c.args.word asked.seat asked.weight asked.word
