use Rattle.g1_core.proofs.ClearLemmas.{pending_at, entered_at, granted_at, cleared_core}
use Rattle.g1_core.proofs.machinery.Core.clear.Goals as goal

-- while cards are pending
pub returns-then-self-gt0 : goal.returns-then-self-gt0
returns-then-self-gt0 c =
    let t = pending_at c.self.inside.memory.heap c.self.inside.memory.sets c.self.inside.hot c.self.inside.memory.pending c.self.inside.config c.args.self.now c.self.invariant c.self.view_is c.args.region c.requires c.if-self-gt0.true in
    record { did = t.did; step = t.step; later = t.later }

-- while a slot enters the region
pub returns-in-Some : goal.returns-in-Some
returns-in-Some c =
    let t = entered_at c.self.inside.memory.heap c.self.inside.memory.sets c.self.inside.hot c.self.inside.memory.pending c.self.inside.config c.args.self.now c.self.invariant c.self.view_is c.args.region c.requires
    c.least_entering.new.heap c.if-self-gt0.false c.least_entering.ensures.tied c.least_entering.ensures.heap c.in-Some.slot c.in-Some.ensures.least in
    record { did = t.did; step = t.step; later = t.later }

-- once none does
pub invariant_of-self-2 : goal.invariant_of-self-2
invariant_of-self-2 c = cleared_core c.self.inside.memory.heap c.self.inside.memory.sets c.self.inside.hot c.self.inside.memory.pending c.self.inside.config c.args.self.now c.self.invariant c.self.view_is c.args.region c.requires
    c.least_entering.new.heap c.if-self-gt0.false c.least_entering.ensures.tied c.least_entering.ensures.heap c.clear.new.self c.clear.ensures.layout c.clear.ensures.pairs c.in_default.ensures.least

pub returns : goal.returns
returns c =
    let t = granted_at c.self.inside.memory.heap c.self.inside.memory.sets c.self.inside.hot c.self.inside.memory.pending c.self.inside.config c.args.self.now c.self.invariant c.self.view_is c.args.region c.requires
    c.least_entering.new.heap c.if-self-gt0.false c.least_entering.ensures.tied c.least_entering.ensures.heap c.clear.new.self c.clear.ensures.layout c.clear.ensures.pairs c.in_default.ensures.least in
    record { did = t.did; step = t.step; later = t.later }
