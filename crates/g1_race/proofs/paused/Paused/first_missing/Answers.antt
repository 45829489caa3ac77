use Rattle.g1_race.specs.{subst, arith, IsMissing, first_none, first_found, Pause, table_at}
use Rattle.g1_race.proofs.paused.Paused.first_missing.Goals as goal

pub returns-then-is_missing-clause-first : goal.returns-then-is_missing-clause-first
returns-then-is_missing-clause-first g c =
    let was = c.loop-i.invariant in
    first_found (IsMissing (table_at c.args.self.now)) c.args.first _ c.loop-i.i c.slot_behind-slot.result c.slot_behind-slot.ensures c.loop-i-test.true
    (subst (λ (h : Pause). IsMissing (table_at h) c.slot_behind-slot.result) was.same (c.is_missing.ensures.missing.0 c.if-is_missing.true)) was.none

pub returns-clause-first : goal.returns-clause-first
returns-clause-first g c =
    let was = c.loop-i.invariant in
    first_none (IsMissing (table_at c.args.self.now)) c.args.first _ (λ k lt. was.none k (omega (arith, lt, c.loop-i-test.false)))
