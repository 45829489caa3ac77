use Rattle.g1_race.proofs.{may_write}
use Rattle.g1_race.proofs.race.Racer.exchange.Goals as goal

pub exchange-found-requires-clause-racer : goal.exchange-found-requires-clause-racer
exchange-found-requires-clause-racer c = may_write c.args.race.now c.args.self.now c.requires.race
