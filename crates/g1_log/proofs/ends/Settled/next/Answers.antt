use Rattle.std.specs.Prelude.{◌≡◌}
use Rattle.g1_log.specs.{Some, IfSome, true, false, rules, subst, view}
use Rattle.g1_log.proofs.Ending.{drains, learns_rest}
use Rattle.g1_log.proofs.ends.Settled.next.Goals as goal

pub pop_as-self-requires-clause-rule : goal.pop_as-self-requires-clause-rule
pop_as-self-requires-clause-rule g c =
    let e : c.args.self.now.ahead ≡ Some c.in_ok-next.next = search rules in
    let v = view c.args.self.now.pass in
    let k = subst (λ o. IfSome o (λ x. (v.ended ≡ true) × (v.fresh ≡ false))) e c.args.self.now.knows in
    (drains _ _ k.0 k.1, learns_rest _ _ k.0 k.1)
