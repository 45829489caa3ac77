use Rattle.std.specs.Prelude.{◌≡◌, ◌+◌}
use Rattle.g1_replay.specs.{◌∙◌, ℕ, refl, arith, subst, Ok, Err, WriteFailed, HasDrained, at}
use Rattle.g1_replay.proofs.{err_is}
use Rattle.g1_replay.proofs.DrainLemmas.{drained_none, drained_then}
use Rattle.g1_replay.proofs.drains.put_left.Goals as goal

pub returns-in_err-put_stores-clause-drained : goal.returns-in_err-put_stores-clause-drained
returns-in_err-put_stores-clause-drained g c = rw (err_is _ c.from_residual.ensures.1) (drained_none g.D.Drains.draining c.args.stores c.args.layout.regions _ _ _ (Err WriteFailed) (λ e. cc) (λ e. cc) c.in_err-put_stores.ensures)

pub loop-number-init : goal.loop-number-init
loop-number-init g c = (omega arith, c.requires, drained_none g.D.Drains.draining c.args.stores 0 _ _ _ (Ok tt) (λ e. refl) (λ e. cc) c.in_ok-put_stores.ensures)

pub returns-in_err-put_drain-clause-drained : goal.returns-in_err-put_drain-clause-drained
returns-in_err-put_drain-clause-drained g c =
    let drain = rw c.in-Some.ensures.1 at c.in_err-put_drain.ensures.played in
    rw (err_is _ c.from_residual-in_err-put_drain.ensures.1) (drained_then g.D.Drains.draining c.args.stores c.args.layout.regions c.loop-number.number _ _ _ (Err _) c.loop-number.invariant.2 drain (λ e. cc))

pub returns-clause-drained : goal.returns-clause-drained
returns-clause-drained g c =
    let all : c.loop-number.number ≡ c.args.layout.regions = omega (arith, c.loop-number-test.false, c.counts-regions.ensures.regions, c.loop-number.invariant.0) in
    subst (λ (k : ℕ). HasDrained g.D.Drains.draining k c.args.stores (at c.args.left.now (g.W.Write.contents c.args.output.now)) (at c.loop-number.left (g.W.Write.contents c.loop-number.output)) (Ok tt)) all c.loop-number.invariant.2

pub loop-number-preserved : goal.loop-number-preserved
loop-number-preserved g c =
    let drain = rw c.in-Some.ensures.1 at c.in_ok-put_drain.ensures.played in
    let more = drained_then g.D.Drains.draining c.args.stores (c.loop-number.number + 1) c.loop-number.number _ _ _ (Ok tt) c.loop-number.invariant.2 drain (λ e. refl) in
    (omega (arith, c.in-Some.ensures.0), g.D.Drains.draining.stays _ _ _ _ more.played ∙ c.requires, more)
