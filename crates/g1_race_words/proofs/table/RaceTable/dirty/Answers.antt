use Rattle.g1_race_words.proofs.{dirty_owed}
use Rattle.g1_race_words.proofs.table.RaceTable.dirty.Goals as goal

pub swap-requires : goal.swap-requires
swap-requires c =
    let asked = rw (← c.self.view_is, ← c.seat.view_is) at c.requires in
    dirty_owed _ _ c.self.invariant.0 c.self.invariant.2 c.seat.inside.seat asked.table c.args.mark asked.racer asked.mark asked.flag
