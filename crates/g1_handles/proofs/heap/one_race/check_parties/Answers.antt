-- A handle is put back as it was found.
use Rattle.std.specs.Prelude.{◌<◌}
use Rattle.g1_handles.specs.{All, length, slice_index_or, sym, ◌∙◌, subst, arith, length-set, All-map, AllWithin-more_set, All-from_all_within, AllWithin-upto, map-set_same, OnOk, arc_value, race_shape, TakesPart}
use Rattle.g1_handles.proofs.heap.one_race.check_parties.Goals as goal

pub returns-in_err-number-clause-same : goal.returns-in_err-number-clause-same
returns-in_err-number-clause-same g c =
    map-set_same g.H.AnyHandle.value c.loop-i.handles c.loop-i.i _ c.index-handles-i.result c.check_party.ensures.same ∙ c.loop-i.invariant.same

pub returns-then-number-ge128-clause-same : goal.returns-then-number-ge128-clause-same
returns-then-number-ge128-clause-same g c =
    map-set_same g.H.AnyHandle.value c.loop-i.handles c.loop-i.i _ c.index-handles-i.result c.check_party.ensures.same ∙ c.loop-i.invariant.same

pub loop-i-preserved : goal.loop-i-preserved
loop-i-preserved g c =
    let i = c.loop-i.invariant in
    let hs = c.loop-i.handles in
    let n = c.loop-i.i in
    let h = c.index-handles-i.result in
    let put = c.check_party.ensures in
    let value = g.H.AnyHandle.value in
    let below : n < length hs = omega (arith, c.loop-i-test.true, i.sized) in
    let Q = TakesPart (race_shape (arc_value c.args.race.now)).parties in
    let among = subst (λ r. OnOk r (Q (value (slice_index_or hs n h)))) c.in_ok-number.was put.among in
    record {
      sized = length-set hs n _ ∙ i.sized;
      same = map-set_same value hs n _ h put.same ∙ i.same;
      among = AllWithin-more_set hs n _ below (λ x. Q (value x)) i.among (subst Q (sym put.same) among);
    }

pub returns-clause-among : goal.returns-clause-among
returns-clause-among g c =
    let i = c.loop-i.invariant in
    let hs = c.loop-i.handles in
    let value = g.H.AnyHandle.value in
    let Q = TakesPart (race_shape (arc_value c.args.race.now)).parties in
    subst (All Q) i.same (All-map Q value hs
    (All-from_all_within (λ x. Q (value x)) hs (AllWithin-upto (λ x. Q (value x)) hs 0 c.loop-i.i (length hs) (omega (arith, c.loop-i-test.false, i.sized)) i.among)))
