use Rattle.g1_race_words.proofs.{record_owed}
use Rattle.g1_race_words.proofs.table.RaceTable.record.Goals as goal

pub fetch_or-requires : goal.fetch_or-requires
fetch_or-requires c =
    let asked = rw (← c.self.view_is, ← c.seat.view_is) at c.requires in
    record_owed _ _ c.self.invariant.0 c.self.invariant.2 c.seat.inside.seat asked.table c.args.word c.args.index asked.sweeper asked.pair.0 asked.pair.1 asked.pair.2
