-- The slot at i lies in the region.
use Rattle.std.specs.Prelude.{◌≡◌, ◌+◌, ◌*◌, ◌<◌}
use Rattle.g1_handles.specs.{Some, ap, sym, ◌∙◌, subst, not-true, eqb-false, Shape, region_of, region_of-offset, target_of, Pause, table_at}
use Rattle.g1_handles.proofs.heap.evacuation.refers_out.Goals as goal

pub returns-then-ne-clause-some : goal.returns-then-ne-clause-some
returns-then-ne-clause-some c = λ _.
    let l = c.args.layout in
    let slot = c.in-Some.slot in
    let place = c.in-Some-target.target in
    let cards = c.counts-cards.result.1 in
    let slots = c.counts-cards.result.2 in
    let i = c.loop-i.i in
    let span : cards * slots ≡ l.cards * l.slots = ap (λ n. n * slots) c.counts-cards.ensures.cards ∙ ap (λ n. l.cards * n) c.counts-cards.ensures.slots in
    let at : slot ≡ c.args.region * (l.cards * l.slots) + i =
    c.in-Some.ensures.1 ∙ (ap (λ n. n * (cards * slots) + i) c.number.ensures ∙ ap (λ n. c.args.region * n + i) span) in
    let inside : region_of l slot ≡ c.args.region =
    ap (region_of l) at ∙ region_of-offset l c.args.region i (subst (λ n. i < n) span c.loop-i-test.true) in
    let other = eqb-false c.region_of.result c.args.region (not-true _ (sym c.ne.ensures ∙ c.if-ne.true)) in
    record {
      slot = slot;
      place = place;
      crosses = record {
        refers = subst (λ (h : Pause). target_of (table_at h) slot ≡ Some place) c.loop-i.invariant.0 (sym c.target.ensures.told.refers ∙ c.in-Some-target.is);
        across = λ e. other (c.region_of.ensures.quotient ∙ (sym (subst (λ (s : Shape). region_of s slot ≡ region_of s place) (sym c.requires.layout) e) ∙ inside));
      };
      inside = subst (λ (s : Shape). region_of s slot ≡ c.args.region) c.requires.layout inside;
    }
