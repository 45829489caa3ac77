use Rattle.g1_core.specs.{refl, AreMembers}
use Rattle.g1_core.proofs.{members_step, members_inside, seen_sound}
use Rattle.g1_core.proofs.machinery.Core.members.Goals as goal

pub returns : goal.returns
returns c =
    let are : AreMembers c.args.self.now.state.table c.args.region c.of.result = rw (c.of.ensures, ← c.self.view_is) c.in_ok-cards.ensures in
    let within = members_inside c.args.self.now.state c.args.region c.of.result
    (seen_sound c.self.inside.memory.heap c.self.inside.memory.sets c.self.inside.hot c.self.inside.memory.pending c.self.invariant c.self.inside.config c.args.self.now c.self.view_is) are in
    record { did = record { told = record { members = are; step = λ caller. members_step caller c.args.self.now.state.table c.args.region c.of.result c.requires are }; within = within; machine = refl } }
