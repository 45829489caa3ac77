use Rattle.g1_core.specs.{map, ap, arith, State, Differs}
use Rattle.g1_core.proofs.VerifyLemmas.{first_none, first_found, slot_differs}
use Rattle.g1_core.proofs.machinery.Core.first_differing.Goals as goal

pub returns-then-not-refers_to-clause-first : goal.returns-then-not-refers_to-clause-first
returns-then-not-refers_to-clause-first g c =
    let was = c.loop-i.invariant in
    let t = c.args.self.now.state.table in
    let P = g.M.Reference.place in
    let memory = c.args.memory.now in
    first_found (Differs t c.args.first (map P memory)) c.args.first _ c.loop-i.i c.slot_behind-slot.result c.slot_behind-slot.ensures c.loop-i-test.true
    (slot_differs P memory t c.loop-i.self.state.table c.args.first c.loop-i.i c.slot_behind-slot.result c.index-memory-i.result c.target.result c.slot_behind-slot.ensures c.loop-i-test.true c.index-memory-i.is
    (ap (λ (s : State). s.table) was.read.state) c.target.ensures.did.told.refers (λ e. absurd (let y = c.refers_to.ensures.1 e in let n = c.if-not-refers_to.true in cc (y, n)))) was.none

pub returns-clause-first : goal.returns-clause-first
returns-clause-first g c =
    let i = c.loop-i.invariant in
    let t = c.args.self.now.state.table in
    first_none (Differs t c.args.first (map g.M.Reference.place c.args.memory.now)) c.args.first _ (λ k lt. i.none k (omega (arith, lt, c.loop-i-test.false)))
