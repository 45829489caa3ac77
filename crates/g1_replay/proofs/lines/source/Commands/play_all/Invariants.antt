use Rattle.std.specs.Prelude.{◌^◌, ◌-◌}
use Rattle.g1_replay.specs.{true, Ok, Follows, scene, IsOfTrace}
use Rattle.g1_replay.proofs.lines.source.Commands.play_all.Given as goal

-- what was done so far
abbrev pub invariant-lines : goal.invariant-lines
invariant-lines g l = record {
  done : Follows g.P.Player.plays.deeds (scene l.fn.self l.fn.player (g.W.Write.contents l.fn.output)) (scene l.self l.player (g.W.Write.contents l.output))
      (g.R.Read.remaining l.fn.input, g.R.Read.remaining l.input) (Ok true);
  same : IsOfTrace l.fn.self l.self;
  takes : g.P.Player.plays.takes l.player l.self.layout l.self.dialect;
}

abbrev pub decreases-lines : goal.decreases-lines
decreases-lines g l = 2 ^ 40 - l.self.source.now.reads
