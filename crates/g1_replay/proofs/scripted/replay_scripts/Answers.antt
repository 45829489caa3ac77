use Rattle.g1_replay.proofs.{scripts_replayed}
use Rattle.g1_replay.proofs.scripted.replay_scripts.Goals as goal

pub returns : goal.returns
returns g c = scripts_replayed c.args.mode c.args.options.now _ _ _ _ _ _ _ c.play_scripts-outcome.result _ c.start-source.ensures c.play_scripts-outcome.ensures c.put_end.ensures
