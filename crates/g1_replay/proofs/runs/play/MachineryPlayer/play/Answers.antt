use Rattle.g1_replay.proofs.{played_ready}
use Rattle.g1_replay.proofs.runs.play.MachineryPlayer.play.Goals as goal

pub returns-clause-takes : goal.returns-clause-takes
returns-clause-takes g c = played_ready _ _ _ _ c.args._layout c.args._dialect c.play_command.ensures c.requires.takes
