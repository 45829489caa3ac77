use Rattle.g1_replay.specs.{◌∙◌}
use Rattle.g1_replay.proofs.{err_is, follows_then}
use Rattle.g1_replay.proofs.lines.source.Commands.play_all.Goals as goal

pub returns-in_err-play_some-clause-followed : goal.returns-in_err-play_some-clause-followed
returns-in_err-play_some-clause-followed g c = rw (err_is _ c.from_residual.ensures.1) (follows_then g.P.Player.plays.deeds _ _ _ _ _ _ _ c.lines.invariant.same c.lines.invariant.done c.in_err-play_some.ensures.followed)

pub lines-preserved : goal.lines-preserved
lines-preserved g c =
    let more = rw c.if-branch.true at c.in_ok-play_some.ensures in
    record {
      done = follows_then g.P.Player.plays.deeds _ _ _ _ _ _ _ c.lines.invariant.same c.lines.invariant.done more.followed;
      same = (more.same.0 ∙ c.lines.invariant.same.0, more.same.1 ∙ c.lines.invariant.same.1, more.same.2 ∙ c.lines.invariant.same.2);
      takes = more.takes;
    }

pub returns-clause-followed : goal.returns-clause-followed
returns-clause-followed g c =
    let end = rw c.if-branch.false at c.in_ok-play_some.ensures.followed in
    follows_then g.P.Player.plays.deeds _ _ _ _ _ _ _ c.lines.invariant.same c.lines.invariant.done end
