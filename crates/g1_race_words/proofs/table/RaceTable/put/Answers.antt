use Rattle.g1_race_words.proofs.{put_owed}
use Rattle.g1_race_words.proofs.table.RaceTable.put.Goals as goal

pub store-requires : goal.store-requires
store-requires c =
    let asked = rw (← c.self.view_is, ← c.seat.view_is) at c.requires in
    put_owed _ _ c.self.invariant.0 c.self.invariant.2 c.seat.inside.seat asked.seat.here.table c.self.invariant.3 asked.seat c.args.word c.args.new asked.word asked.begun
