use Rattle.g1_replay.specs.{true, Ok, Err, WriteFailed}
use Rattle.g1_replay.proofs.{err_is}
use Rattle.g1_replay.proofs.CoreDrainLemmas.{drives_refused, drives_said}
use Rattle.g1_replay.proofs.drains.CoreDrains.put_drain.Goals as goal

pub returns-in_err-answer-clause-played : goal.returns-in_err-answer-clause-played
returns-in_err-answer-clause-played g c = rw (err_is _ c.from_residual.ensures.1) (drives_refused _ _ c.args.region _ c.in_err-answer.ensures.err)

pub returns-in_err-put_call-clause-played : goal.returns-in_err-put_call-clause-played
returns-in_err-put_call-clause-played g c = rw (err_is _ c.from_residual-in_err-put_call.ensures.1) (drives_said _ _ c.args.region c.in_ok-answer.answer (Err WriteFailed) (λ e. cc) c.in_ok-answer.ensures.step (rw c.from.ensures at c.in_err-put_call.ensures))

pub returns-clause-played : goal.returns-clause-played
returns-clause-played g c = drives_said _ _ c.args.region c.in_ok-answer.answer (Ok true) (λ e. cc) c.in_ok-answer.ensures.step (rw c.from.ensures at c.in_ok-put_call.ensures)
