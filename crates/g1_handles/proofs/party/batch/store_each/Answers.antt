-- One store more, or why there is none.
use Rattle.g1_handles.specs.{refl, subst, sym, ◌∙◌, racing, StoresFirst, IsEnd}
use Rattle.g1_handles.specs.Racing.{Racing}
use Rattle.g1_handles.proofs.BatchLemmas.{stores_next, stores_end}
use Rattle.g1_handles.proofs.party.batch.store_each.Goals as goal

pub loop-i-preserved : goal.loop-i-preserved
loop-i-preserved c =
    let race = c.args.race.now in (
      c.store_next.ensures.same ∙ c.loop-i.invariant.0,
      stores_next (racing race c.args.racer.now c.args.counts.now) (racing race c.loop-i.racer c.loop-i.counts) (racing race c.store_next.new.racer c.store_next.new.counts)
          c.args.stores.now c.loop-i.i _ c.in-Ok.field-0 c.loop-i-test.true c.loop-i.invariant.1 (c.in-Ok.ensures.can refl) c.in-Ok.ensures.stored,
    )

pub returns-in-Err : goal.returns-in-Err
returns-in-Err c =
    let race = c.args.race.now in
    let first = racing race c.args.racer.now c.args.counts.now in
    let last = racing race c.loop-i.racer c.loop-i.counts in
    let end : IsEnd c.end_of.result first c.args.stores.now c.loop-i.i last =
    stores_end first last c.args.stores.now c.loop-i.i _ c.in-Err.refusal c.end_of.result c.loop-i-test.true c.loop-i.invariant.1 c.in-Err.ensures.why c.end_of.ensures.full c.end_of.ensures.stopped in
    let left = c.in-Err.ensures.refused in
    record {
      same = c.store_next.ensures.same ∙ c.loop-i.invariant.0;
      stored = subst (λ (b : Racing). StoresFirst first c.args.stores.now (record { count = c.loop-i.i; end = c.end_of.result }) b) (λ i. racing race (sym left.0 i) (sym left.1 i))
          (record { stored = c.loop-i.invariant.1; end = end });
    }
