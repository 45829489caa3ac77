use Rattle.std.specs.Prelude.{◌≡◌}
use Rattle.g1_log.specs.{◌∙◌, length, vec_len, sym, rules, subst, YieldsList-from_vec, YieldsList-turn, IsTakerOf}
use Rattle.g1_log.proofs.Merging.{gathers}
use Rattle.g1_log.proofs.line.Line.gather_takers.Goals as goal

pub absorb-requires-clause-rule : goal.absorb-requires-clause-rule
absorb-requires-clause-rule c =
    let g = c.into_iter-taker-iterator.ensures.into_iter_gives in
    let same : vec_len c.args.takers ≡ length c.args.takers.items = search rules in
    let t = YieldsList-turn (YieldsList-from_vec {s = c.into_iter-taker-iterator.result} c.args.takers.items g.0 (g.1 ∙ same)) c.loop-taker.yielded c.loop-taker.taker-iterator c.loop-taker.yielded_by c.next.result c.next.new.self c.in-Some.taker c.in-Some.is c.next.ensures.steps in
    let of : IsTakerOf c.args.self.now c.in-Some.taker = subst (IsTakerOf c.args.self.now) (sym t.1) (c.requires.takers (length c.loop-taker.yielded) c.in-Some.taker t.0) in
    gathers _ _ _ _ c.loop-taker.invariant.gathers c.in-Some.taker.role.known c.in-Some.taker.role.right
