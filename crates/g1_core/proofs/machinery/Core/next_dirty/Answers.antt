use Rattle.g1_core.proofs.DrainCardLemmas.{none_pending_dirty, next_is}
use Rattle.g1_core.proofs.machinery.Core.next_dirty.Goals as goal

pub returns-then-self-eq0-clause-none : goal.returns-then-self-eq0-clause-none
returns-then-self-eq0-clause-none c = none_pending_dirty c.self.inside.memory.heap c.self.inside.memory.sets c.self.inside.hot c.self.inside.memory.pending c.self.inside.config c.args.self.now c.self.invariant c.self.view_is c.args.from c.if-self-eq0.true

pub returns : goal.returns
returns c =
    let n = next_is c.self.inside.memory.heap c.self.inside.memory.sets c.self.inside.hot c.self.inside.memory.pending c.self.inside.config c.args.self.now c.self.invariant c.self.view_is c.args.from c.next_dirty.result c.next_dirty.ensures in
    record { none = n.none; dirty = n.dirty; within = n.within; first = n.first }
