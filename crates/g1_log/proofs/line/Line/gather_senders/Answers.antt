use Rattle.std.specs.Prelude.{◌≡◌}
use Rattle.g1_log.specs.{◌∙◌, vec_len, length, refl, sym, rules, arith, subst, YieldsList-from_vec, YieldsList-turn, whole, IsSenderOf}
use Rattle.g1_log.proofs.Merging.{gathers}
use Rattle.g1_log.proofs.line.Line.gather_senders.Goals as goal

pub absorb-requires-clause-rule : goal.absorb-requires-clause-rule
absorb-requires-clause-rule c =
    let g = c.into_iter-sender-iterator.ensures.into_iter_gives in
    let same : vec_len c.args.senders ≡ length c.args.senders.items = search rules in
    let t = YieldsList-turn (YieldsList-from_vec {s = c.into_iter-sender-iterator.result} c.args.senders.items g.0 (g.1 ∙ same)) c.loop-sender.yielded c.loop-sender.sender-iterator c.loop-sender.yielded_by c.next.result c.next.new.self c.in-Some.sender c.in-Some.is c.next.ensures.steps in
    let of : IsSenderOf c.args.self.now c.in-Some.sender = subst (IsSenderOf c.args.self.now) (sym t.1) (c.requires.senders.0 (length c.loop-sender.yielded) c.in-Some.sender t.0) in
    gathers _ _ _ _ c.loop-sender.invariant.gathers c.in-Some.sender.role.known c.in-Some.sender.role.right

pub overflow_add-sent : goal.overflow_add-sent
overflow_add-sent c =
    let g = c.into_iter-sender-iterator.ensures.into_iter_gives in
    let same : vec_len c.args.senders ≡ length c.args.senders.items = search rules in
    let t = YieldsList-turn (YieldsList-from_vec {s = c.into_iter-sender-iterator.result} c.args.senders.items g.0 (g.1 ∙ same)) c.loop-sender.yielded c.loop-sender.sender-iterator c.loop-sender.yielded_by c.next.result c.next.new.self c.in-Some.sender c.in-Some.is c.next.ensures.steps in
    let of : IsSenderOf c.args.self.now c.in-Some.sender = subst (IsSenderOf c.args.self.now) (sym t.1) (c.requires.senders.0 (length c.loop-sender.yielded) c.in-Some.sender t.0) in
    let w : whole ≡ 20 = refl in
    let lt = t.0 in let few = c.requires.senders.1 in
    omega (arith, c.loop-sender.invariant.bound, c.in-Some.sender.most)
