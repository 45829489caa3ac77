use Rattle.g1_race.specs.{◌∙◌, map, ap, below_more, arith, Differs, first_none, first_found, slot_same, slot_differs, table_at}
use Rattle.g1_race.proofs.paused.Paused.first_differing.Goals as goal

pub returns-then-not-refers_to-clause-first : goal.returns-then-not-refers_to-clause-first
returns-then-not-refers_to-clause-first g c =
    let was = c.loop-i.invariant in
    let t = table_at c.args.self.now in
    let P = g.M.Reference.place in
    let memory = c.args.memory.now in
    first_found (Differs t c.args.first (map P memory)) c.args.first _ c.loop-i.i c.slot_behind-slot.result c.slot_behind-slot.ensures c.loop-i-test.true
    (slot_differs P memory t (table_at c.loop-i.self) c.args.first c.loop-i.i c.slot_behind-slot.result c.index-memory-i.result c.target.result c.slot_behind-slot.ensures c.loop-i-test.true c.index-memory-i.is
    (ap table_at was.same) c.target.ensures.told.refers (λ e. absurd (let y = c.refers_to.ensures.1 e in let n = c.if-not-refers_to.true in cc (y, n)))) was.none

pub loop-i-preserved : goal.loop-i-preserved
loop-i-preserved g c =
    let was = c.loop-i.invariant in
    let P = g.M.Reference.place in
    let memory = c.args.memory.now in
    record {
      none = below_more _ _ was.none (slot_same P memory (table_at c.args.self.now) (table_at c.loop-i.self) c.args.first c.loop-i.i c.slot_behind-slot.result c.index-memory-i.result c.target.result c.slot_behind-slot.ensures c.loop-i-test.true c.index-memory-i.is
          (ap table_at was.same) c.target.ensures.told.refers (c.refers_to.ensures.0 c.if-not-refers_to.false));
      same = c.target.ensures.same ∙ was.same;
    }

pub returns-clause-first : goal.returns-clause-first
returns-clause-first g c =
    let i = c.loop-i.invariant in
    first_none (Differs (table_at c.args.self.now) c.args.first (map g.M.Reference.place c.args.memory.now)) c.args.first _ (λ k lt. i.none k (omega (arith, lt, c.loop-i-test.false)))
