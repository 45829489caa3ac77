use Rattle.g1_race_words.proofs.{read_owed}
use Rattle.g1_race_words.proofs.table.RaceTable.read.Goals as goal

pub load-requires : goal.load-requires
load-requires c =
    let asked = rw (← c.self.view_is, ← c.seat.view_is) at c.requires in
    read_owed _ _ c.self.invariant.0 c.self.invariant.2 c.seat.inside.seat asked.table c.args.slot asked.sweeper asked.free asked.next asked.unread asked.slot
