use Rattle.std.specs.Prelude.{◌≡◌, ◌+◌, ◌-◌, ◌≤◌}
use Rattle.g1_replay.specs.{take, length, true, Ok, FollowsFront, scene, IsOfTrace}
use Rattle.g1_replay.proofs.lines.source.Commands.play_shown.Given as goal

-- what was done so far
abbrev pub invariant-lines : goal.invariant-lines
invariant-lines g l = record {
  followed : FollowsFront g.P.Player.plays.deeds (scene l.fn.self l.fn.player (g.W.Write.contents l.fn.output)) (scene l.self l.player (g.W.Write.contents l.output))
      (take l.taken l.shown) (Ok true);
  within : l.taken ≤ length l.shown;
  counted : l.self.source.now.number ≤ l.fn.self.source.now.number + l.taken;
  reads : l.self.source.now.reads ≡ l.fn.self.source.now.reads;
  same : IsOfTrace l.fn.self l.self;
  takes : g.P.Player.plays.takes l.player l.self.layout l.self.dialect;
}

abbrev pub decreases-lines : goal.decreases-lines
decreases-lines g l = length l.shown - l.taken
