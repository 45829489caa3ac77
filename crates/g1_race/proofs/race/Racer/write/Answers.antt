use Rattle.g1_race.proofs.{may_write}
use Rattle.g1_race.proofs.race.Racer.write.Goals as goal

pub write-old-requires-clause-racer : goal.write-old-requires-clause-racer
write-old-requires-clause-racer c = may_write c.args.race.now c.args.self.now c.requires.race

pub write-old-requires-then-number-clause-racer : goal.write-old-requires-then-number-clause-racer
write-old-requires-then-number-clause-racer c = may_write c.args.race.now c.args.self.now c.requires.race

pub write-old-requires-2-clause-racer : goal.write-old-requires-2-clause-racer
write-old-requires-2-clause-racer c = may_write c.args.race.now c.args.self.now c.requires.race
