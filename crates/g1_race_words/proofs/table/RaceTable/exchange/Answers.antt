use Rattle.g1_race_words.proofs.{exchange_owed}
use Rattle.g1_race_words.proofs.table.RaceTable.exchange.Goals as goal

pub compare_exchange-requires : goal.compare_exchange-requires
compare_exchange-requires c =
    let asked = rw (← c.self.view_is, ← c.seat.view_is) at c.requires in
    exchange_owed _ _ c.self.invariant.0 c.self.invariant.2 c.seat.inside.seat asked.table c.args.slot c.args.expected c.args.word asked.racer asked.free asked.slot asked.word
