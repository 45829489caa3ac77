use Rattle.g1_replay.specs.{[], take, subst, sym, arith, rules, FillKeeps, Consumes, Consumes_shown, Consumes-nil, ReadFailed, Follows, scene, more_may_come}
use Rattle.g1_replay.proofs.{err_is, follows_then, line_unread}
use Rattle.g1_replay.proofs.ReadingLemmas.{line_stopped}
use Rattle.g1_replay.proofs.lines.source.Commands.play_some.Goals as goal
use Rattle.g1_replay.proofs.lines.source.Commands.play_some.Goals.{After-consume}

pub returns-then-self-ge-READ_LIMIT-clause-followed : goal.returns-then-self-ge-READ_LIMIT-clause-followed
returns-then-self-ge-READ_LIMIT-clause-followed g c =
    line_unread g.P.Player.plays.deeds _ _ _ _ _ ReadFailed tt (line_stopped _ _ _ _ _ ReadFailed [] (Consumes-nil _, tt, omega arith))

pub returns-in-Err-clause-followed : goal.returns-in-Err-clause-followed
returns-in-Err-clause-followed g c =
    let kept : Consumes (g.R.Read.remaining c.args.input.now) (g.R.Read.remaining c.fill_buf.follows.lender-at-none) [] = search rules in
    line_unread g.P.Player.plays.deeds _ _ _ _ _ ReadFailed tt (line_stopped _ _ _ _ _ ReadFailed [] (kept, tt, omega arith))

-- what was played was taken
moved : (g : _) (c : After-consume g) → Consumes (g.R.Read.remaining c.args.input.now) (g.R.Read.remaining c.consume.new.self) (take c.play_shown-taken.result.0 c.front_of.result.now)
moved g c =
    let rested = c.fill_buf.follows.lender-at-none in
    let filled = subst (FillKeeps _ (g.R.Read.remaining rested) (g.R.BufRead.consumable_len rested)) c.in-Ok.is c.fill_buf.follows.holds-at-none in
    let moved = Consumes_shown _ _ _ _ c.in-Ok.shown.now c.play_shown-taken.result.0 (omega (arith, c.play_shown-taken.ensures.within, c.front_of.ensures.within.0)) c.in-Ok.ensures.front c.in-Ok.ensures.end filled.0 filled.1 c.consume.ensures.bytes in
    subst (Consumes _ _) (sym (c.front_of.ensures.front _ c.play_shown-taken.ensures.within)) moved.0

-- the lines that it has were played
shown : (g : _) (c : After-consume g) → Follows g.P.Player.plays.deeds (scene c.args.self.now c.args.player.now (g.W.Write.contents c.args.output.now)) (scene c.play_shown-taken.new.self c.play_shown-taken.new.player (g.W.Write.contents c.play_shown-taken.new.output)) (g.R.Read.remaining c.args.input.now, g.R.Read.remaining c.consume.new.self) (more_may_come c.play_shown-taken.result.1)
shown g c = let played = c.play_shown-taken.ensures.followed _ _ (moved g c) in record { commands = played.commands; read = played.read; done = played.done }

pub returns-in_err-played-clause-followed : goal.returns-in_err-played-clause-followed
returns-in_err-played-clause-followed g c = rw (err_is _ c.from_residual.ensures.1) (rw c.in_err-played.was at (shown g (goal.at.returns-in_err-played-clause-followed g c).After-consume))

pub returns-then-taken-gt0-clause-followed : goal.returns-then-taken-gt0-clause-followed
returns-then-taken-gt0-clause-followed g c =
    rw c.in_ok-played.was at (shown g (goal.at.returns-then-taken-gt0-clause-followed g c).After-consume)

pub returns-clause-followed : goal.returns-clause-followed
returns-clause-followed g c =
    follows_then g.P.Player.plays.deeds _ _ _ _ _ _ _ c.play_shown-taken.ensures.same (rw c.in_ok-played.was at (shown g (goal.at.returns-clause-followed g c).After-consume)) c.play_line.ensures.followed
