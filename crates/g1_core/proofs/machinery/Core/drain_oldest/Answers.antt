use Rattle.g1_core.specs.{popped}
use Rattle.g1_core.proofs.DrainCardLemmas.{IsDrainedTo, oldest_drained, oldest_some}
use Rattle.g1_core.proofs.machinery.Core.drain_oldest.Goals as goal

pub refine-requires-clause-some : goal.refine-requires-clause-some
refine-requires-clause-some c = oldest_some c.self.inside.memory.heap c.self.inside.memory.sets c.self.inside.hot c.self.inside.memory.pending c.self.invariant c.in-Some.card c.in-Some.ensures.card

drained : (c : goal.After-pop_oldest) → IsDrainedTo c.args.self.now c.in-Some.card (popped c.args.self.now.state.ring) c.refine.new.self.heap c.refine.new.self.sets c.pop_oldest.new.self c.refine.new.self.pending c.self.inside.config
drained c = oldest_drained c.self.inside.memory.heap c.self.inside.memory.sets c.self.inside.hot c.self.inside.memory.pending c.self.inside.config c.args.self.now c.self.invariant c.self.view_is c.refine.new.self.heap c.refine.new.self.sets c.refine.new.self.pending c.in-Some.card
    c.in_ok-refine.ensures.cleaned c.in_ok-refine.ensures.pairs c.in_ok-refine.ensures.layout c.in_ok-refine.ensures.less c.pop_oldest.new.self c.pop_oldest.ensures.ring c.in-Some.ensures.card

pub invariant_of-self-2 : goal.invariant_of-self-2
invariant_of-self-2 c = (drained c).core

pub returns-clause-ok : goal.returns-clause-ok
returns-clause-ok c = (drained c).drained
