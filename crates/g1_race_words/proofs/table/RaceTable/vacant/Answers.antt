use Rattle.g1_race_words.specs.{arith, start_of, no_seat}
use Rattle.g1_race_words.proofs.{enters_blank}
use Rattle.g1_race_words.proofs.table.RaceTable.vacant.Goals as goal

pub load_new_seat-seat-requires : goal.load_new_seat-seat-requires
load_new_seat-seat-requires c =
    (omega (arith, c.self.invariant.0, c.self.invariant.2.5), enters_blank c.self.inside.table.shared.key c.self.inside.table.shared.table_id.slots 0 (start_of no_seat))
