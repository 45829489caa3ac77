use Rattle.g1_race.specs.{steps_are_of_five}
use Rattle.g1_race.proofs.laws.steps_are_of_five_kinds.Goals as goal

pub returns : goal.returns
returns _ = steps_are_of_five
