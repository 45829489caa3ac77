use Rattle.g1_replay.specs.{refl, rules}
use Rattle.g1_replay.proofs.{err_is}
use Rattle.g1_replay.proofs.ToldLemmas.{head_told, unopened_told, played_told}
use Rattle.g1_replay.proofs.runs.engine.play_trace.Goals as goal

pub returns-in_err-layout : goal.returns-in_err-layout
returns-in_err-layout g c = rw (err_is _ c.from_residual.ensures.1) (head_told _ _ _ _ _ c.in_err-layout.ensures.stops (c.in_err-layout.ensures.read _))

pub returns-in_err-machinery : goal.returns-in_err-machinery
returns-in_err-machinery g c = rw (err_is _ c.from_residual-in_err-machinery.ensures.1) (unopened_told _ _ _ c.in_ok-layout.layout _ (c.in_ok-layout.ensures.read _))

pub returns : goal.returns
returns g c =
    let same = c.play_all-result.ensures.same.0 in
    played_told c.args.options.now _ _ _ _ _ _ _ c.play_all-result.result refl (search rules) c.in_ok-machinery.ensures (c.in_ok-layout.ensures.read _)
    c.play_all-result.ensures.followed c.play_all-result.ensures.stops c.entries-history.ensures.history
