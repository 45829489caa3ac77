use Rattle.g1_race_words.proofs.{join_owed}
use Rattle.g1_race_words.proofs.table.RaceTable.join.Goals as goal

pub join_seat-requires : goal.join_seat-requires
join_seat-requires c =
    let asked = rw (← c.self.view_is, ← c.seat.view_is, ← c.other.view_is) at c.requires in
    let owed = join_owed _ _ c.self.invariant.0 c.self.invariant.2 c.seat.inside.seat asked.table.0 _ _ asked.party.0 asked.party.1 in
    (asked.table.0, asked.table.1, c.other.invariant, owed.0, owed.1)
