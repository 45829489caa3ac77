-- A handle is put back as it was found.
use Rattle.std.specs.Prelude.{◌≡◌, ◌<◌}
use Rattle.g1_handles.specs.{None, length, sym, ◌∙◌, subst, arith, length-set, All-map, AllWithin-more_set, All-from_all_within, AllWithin-upto, map-set_same, IsTrue, AreClosed}
use Rattle.g1_handles.proofs.Rows.{at_handle}
use Rattle.g1_handles.proofs.any_handle.are_closed.Goals as goal

pub loop-i-preserved : goal.loop-i-preserved
loop-i-preserved g c =
    let i = c.loop-i.invariant in
    let hs = c.loop-i.handles in
    let n = c.loop-i.i in
    let put = c.is_closed.ensures in
    let value = g.H.AnyHandle.value in
    let below : n < length hs = omega (arith, c.loop-i-test.true, i.sized) in
    record {
      sized = length-set hs n _ ∙ i.sized;
      same = map-set_same value hs n _ c.index-handles-i.result put.same ∙ i.same;
      closed = AllWithin-more_set hs n _ below (λ x. value x ≡ None) i.closed (put.same ∙ put.closed c.if-not-is_closed.false);
    }

pub returns-clause-closed : goal.returns-clause-closed
returns-clause-closed g c _ =
    let i = c.loop-i.invariant in
    let hs = c.loop-i.handles in
    let value = g.H.AnyHandle.value in
    subst AreClosed i.same (All-map (λ v. v ≡ None) value hs
    (All-from_all_within (λ x. value x ≡ None) hs (AllWithin-upto (λ x. value x ≡ None) hs 0 c.loop-i.i (length hs) (omega (arith, c.loop-i-test.false, i.sized)) i.closed)))

pub returns-then-not-is_closed-clause-same : goal.returns-then-not-is_closed-clause-same
returns-then-not-is_closed-clause-same g c =
    map-set_same g.H.AnyHandle.value c.loop-i.handles c.loop-i.i _ c.index-handles-i.result c.is_closed.ensures.same ∙ c.loop-i.invariant.same

pub returns-then-not-is_closed-clause-open : goal.returns-then-not-is_closed-clause-open
returns-then-not-is_closed-clause-open g c all =
    let i = c.loop-i.invariant in
    let hs = c.loop-i.handles in
    let n = c.loop-i.i in
    let below : n < length hs = omega (arith, c.loop-i-test.true, i.sized) in
    let closed = at_handle g.H.AnyHandle.value (λ v. v ≡ None) hs n c.index-handles-i.result below (subst AreClosed (sym i.same) all) in
    subst IsTrue c.if-not-is_closed.true (c.is_closed.ensures.«open» closed)
