use Rattle.g1_race.specs.{map, sym, subst, racer_view, sweeper_view, HasEnded}
use Rattle.g1_race.proofs.race.Race.close.Goals as goal

pub returns : goal.returns
returns c = subst (HasEnded c.args.self (map racer_view c.args.racers.items) (map sweeper_view c.args.sweepers.items)) (sym c.close.ensures) c.pause.ensures.left
