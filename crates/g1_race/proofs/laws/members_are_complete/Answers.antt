use Rattle.g1_race.proofs.{members_complete}
use Rattle.g1_race.proofs.laws.members_are_complete.Goals as goal

pub returns : goal.returns
returns _ = members_complete
