use Rattle.g1_race.proofs.Draining.{drain_at_pause}
use Rattle.g1_race.proofs.laws.cards_of_pauses_are_of_references.Goals as goal

pub returns : goal.returns
returns _ = drain_at_pause
