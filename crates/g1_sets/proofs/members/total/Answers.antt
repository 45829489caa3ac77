use Rattle.g1_sets.specs.{arith}
use Rattle.g1_sets.proofs.{counted, counted_le}
use Rattle.g1_sets.proofs.members.total.Goals as goal

pub overflow_add-total : goal.overflow_add-total
overflow_add-total c = let le = counted_le c.args.sets.now c.loop-members.members-index c.members-item.result c.loop-members.total c.loop-members-test.true c.members-item.is c.loop-members.invariant in omega (arith, le, c.requires, c.len.ensures.len)

pub loop-members-preserved : goal.loop-members-preserved
loop-members-preserved c = let more = counted c.args.sets.now c.loop-members.members-index c.members-item.result c.loop-members.total c.loop-members-test.true c.members-item.is c.loop-members.invariant in omega (arith, more, c.len.ensures.len)
