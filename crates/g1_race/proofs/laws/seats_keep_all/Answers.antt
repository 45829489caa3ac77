use Rattle.g1_race_words.proofs.Together.{seats_keep_all}
use Rattle.g1_race.proofs.laws.seats_keep_all.Goals as goal

pub returns : goal.returns
returns _ = seats_keep_all
