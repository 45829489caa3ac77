use Rattle.g1_race.proofs.Fresh.{begun_with, are_fresh, are_fresh_too}
use Rattle.g1_race.proofs.race.Race.begin_from.Goals as goal

pub returns-clause-began : goal.returns-clause-began
returns-clause-began c = begun_with c.resume.result.0 c.in_ok-paused.paused c.resume.result.1 c.resume.result.2 c.resume.ensures.racers c.resume.ensures.sweepers _ c.resume.ensures.layout c.in_ok-paused.ensures.table c.in_ok-paused.ensures.words

pub returns-clause-racers : goal.returns-clause-racers
returns-clause-racers c = are_fresh c.resume.result.0 c.in_ok-paused.paused c.resume.result.1 c.resume.result.2 c.resume.ensures.racers c.resume.ensures.sweepers c.args.racers c.resume.ensures.shape c.resume.ensures.logs c.in_ok-paused.ensures.logs

pub returns-clause-sweepers : goal.returns-clause-sweepers
returns-clause-sweepers c = are_fresh_too c.resume.result.0 c.in_ok-paused.paused c.resume.result.1 c.resume.result.2 c.resume.ensures.racers c.resume.ensures.sweepers c.args.sweepers c.resume.ensures.shape c.in_ok-paused.ensures.sweepers
