use Rattle.g1_replay.proofs.PlayedLemmas.{call_played}
use Rattle.g1_replay.proofs.runs.play.one_call.Goals as goal

pub returns : goal.returns
returns g c =
    call_played c.args.call _ _ c.stand_for.new.machinery _ c.stand_for.ensures.stand c.stand_for.ensures.book c.answer_call.ensures.mutators c.answer_call.ensures.line.1 c.answer_call.ensures.line.0 c.answer_call.ensures.asked
