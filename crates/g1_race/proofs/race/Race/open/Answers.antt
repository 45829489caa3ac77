use Rattle.g1_race.specs.{ap, ◌∙◌, null_of}
use Rattle.g1_race.proofs.Fresh.{have_begun, begun_with, are_fresh, are_fresh_too}
use Rattle.g1_race.proofs.Opening.{opening_words}
use Rattle.g1_race.proofs.race.Race.open.Goals as goal

pub returns-clause-begun : goal.returns-clause-begun
returns-clause-begun c = have_begun c.resume.result.0 c.in_ok-paused.paused c.resume.result.1 c.resume.result.2 c.resume.ensures.racers c.resume.ensures.sweepers _ (c.in_ok-paused.ensures.words ∙ ap null_of c.in_ok-paused.ensures.shape)

pub returns-clause-began : goal.returns-clause-began
returns-clause-began c = begun_with c.resume.result.0 c.in_ok-paused.paused c.resume.result.1 c.resume.result.2 c.resume.ensures.racers c.resume.ensures.sweepers _ c.resume.ensures.layout c.in_ok-paused.ensures.table (opening_words c.args.layout c.in_ok-paused.paused _ c.in_ok-paused.ensures.words c.in_ok-paused.ensures.shape)

pub returns-clause-racers : goal.returns-clause-racers
returns-clause-racers c = are_fresh c.resume.result.0 c.in_ok-paused.paused c.resume.result.1 c.resume.result.2 c.resume.ensures.racers c.resume.ensures.sweepers c.args.racers c.resume.ensures.shape c.resume.ensures.logs c.in_ok-paused.ensures.logs

pub returns-clause-sweepers : goal.returns-clause-sweepers
returns-clause-sweepers c = are_fresh_too c.resume.result.0 c.in_ok-paused.paused c.resume.result.1 c.resume.result.2 c.resume.ensures.racers c.resume.ensures.sweepers c.args.sweepers c.resume.ensures.shape c.in_ok-paused.ensures.sweepers
