use Rattle.g1_replay.specs.{refl, IsAnswered}
use Rattle.g1_replay.proofs.PlayedLemmas.{said_front, said_ok, said_refused}
use Rattle.g1_replay.proofs.calls.play_call.Goals as goal

pub returns-in_err-reply : goal.returns-in_err-reply
returns-in_err-reply g c = said_refused (IsAnswered c.args.call _ _) _ _ _ c.from_residual.ensures.1 c.in_err-reply.ensures

pub returns-in_err-put_call : goal.returns-in_err-put_call
returns-in_err-put_call g c =
    said_front (IsAnswered c.args.call _ _) _ _ _ _ c.from_residual-in_err-put_call.ensures.1 (_, c.in_ok-reply.ensures, refl) c.in_err-put_call.ensures

pub returns : goal.returns
returns g c = said_ok (IsAnswered c.args.call _ _) _ _ _ (_, c.in_ok-reply.ensures, refl) c.in_ok-put_call.ensures
