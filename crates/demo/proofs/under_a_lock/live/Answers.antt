use Rattle.std.proofs.Common.{rules, arith, ◌≡◌, length}
use Rattle.demo.proofs.under_a_lock.live.Goals as goal

pub run-requires-clause-of : goal.run-requires-clause-of
run-requires-clause-of g c κs within k d h =
    let len : length c.in-Ok.callers.items ≡ 3 = search rules in
    (c.in-Ok.ensures.each k d (omega arith)).of
