use Rattle.std.specs.Prelude.{◌∷◌}
use Rattle.g1_replay.specs.{[], true, false}
use Rattle.g1_replay.proofs.{err_is, line_passed, line_unread, line_stopped}
use Rattle.g1_replay.proofs.lines.source.Commands.play_line.Goals as goal

pub returns-in_err-read_next-clause-followed : goal.returns-in_err-read_next-clause-followed
returns-in_err-read_next-clause-followed g c = rw (err_is _ c.from_residual.ensures.1) (line_unread g.P.Player.plays.deeds _ _ _ _ _ _ c.in_err-read_next.ensures.stops (c.in_err-read_next.ensures.read _ c.requires.part))

pub returns-in-End-clause-followed : goal.returns-in-End-clause-followed
returns-in-End-clause-followed g c = line_passed g.P.Player.plays.deeds _ _ _ _ _ false (rw c.in-End.is at (c.in_ok-read_next.ensures.read _ c.requires.part))

pub returns-in-Blank-clause-followed : goal.returns-in-Blank-clause-followed
returns-in-Blank-clause-followed g c = line_passed g.P.Player.plays.deeds _ _ _ _ _ true (rw c.in-Blank.is at (c.in_ok-read_next.ensures.read _ c.requires.part))

pub returns-in_err-play-in-Do-clause-followed : goal.returns-in_err-play-in-Do-clause-followed
returns-in_err-play-in-Do-clause-followed g c =
    let read = rw c.in-Do.is at (c.in_ok-read_next.ensures.read _ c.requires.part) in
    rw (err_is _ c.from_residual-in_err-play-in-Do.ensures.1) (line_stopped g.P.Player.plays.deeds c.in-Do.command _ _ _ _ _ (g.P.Player.plays.may_stop _ c.in_err-play-in-Do.ensures.stops) read c.in_err-play-in-Do.ensures.played)

pub returns-in_ok-play-in-Do-clause-followed : goal.returns-in_ok-play-in-Do-clause-followed
returns-in_ok-play-in-Do-clause-followed g c = record {
  commands = c.in-Do.command ∷ [];
  read = rw c.in-Do.is at (c.in_ok-read_next.ensures.read _ c.requires.part);
  done = c.in_ok-play-in-Do.ensures.played;
}
