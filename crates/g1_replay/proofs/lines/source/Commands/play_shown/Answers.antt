use Rattle.g1_replay.specs.{◌∙◌, true, refl, arith, Ok, Err}
use Rattle.g1_replay.proofs.{front_none, front_then}
use Rattle.g1_replay.proofs.lines.source.Commands.play_shown.Goals as goal

pub lines-init : goal.lines-init
lines-init g c = record {
  followed = front_none g.P.Player.plays.deeds _ c.args.shown.now;
  within = omega arith;
  counted = omega arith;
  reads = refl;
  same = (refl, refl, refl);
  takes = c.requires.takes;
}

pub returns-in-Err-clause-followed : goal.returns-in-Err-clause-followed
returns-in-Err-clause-followed g c =
    front_then g.P.Player.plays.deeds _ _ _ c.lines.taken c.in-Some.count c.args.shown.now _ (Err c.in-Err.stop) c.split_at.ensures.back c.lines.invariant.same c.lines.invariant.followed (rw c.in-Err.is at c.in-Some.ensures.followed)

pub lines-preserved : goal.lines-preserved
lines-preserved g c =
    let count = c.in-Some.ensures.within in
    let left = c.split_at.ensures.back_len in
    let line = c.in-Some.ensures.counted in
    let before = c.lines.invariant.counted in
    record {
      followed = front_then g.P.Player.plays.deeds _ _ _ c.lines.taken c.in-Some.count c.args.shown.now _ (Ok true) c.split_at.ensures.back c.lines.invariant.same c.lines.invariant.followed
          (rw c.in_default-played.is at c.in-Some.ensures.followed);
      within = omega arith;
      counted = omega arith;
      reads = c.in-Some.ensures.reads ∙ c.lines.invariant.reads;
      same = (c.in-Some.ensures.same.0 ∙ c.lines.invariant.same.0, c.in-Some.ensures.same.1 ∙ c.lines.invariant.same.1, c.in-Some.ensures.same.2 ∙ c.lines.invariant.same.2);
      takes = rw c.in_default-played.is at c.in-Some.ensures.takes;
    }
