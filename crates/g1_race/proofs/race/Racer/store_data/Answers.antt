use Rattle.g1_race.proofs.{may_write}
use Rattle.g1_race.proofs.race.Racer.store_data.Goals as goal

pub write-requires-clause-racer : goal.write-requires-clause-racer
write-requires-clause-racer c = may_write c.args.race.now c.args.self.now c.requires.race
