-- The next handle gives its role, and its box waits.
use Rattle.std.specs.Prelude.{◌≡◌, ◌<◌}
use Rattle.g1_handles.specs.{Some, None, Box, All, length, slice_index_or, sym, ap, ◌∙◌, subst, arith, IsSome, Global, arc_value, length-set, get_or-set_other, All-push, All-map, AllWithin-more_set, All-from_all_within, AllWithin-upto, race_id, Party, counts_of, role_in, BelongsTo}
use Rattle.g1_handles.proofs.{role_is_of, none_is_some}
use Rattle.g1_handles.proofs.Rows.{at_handle, view_next}
use Rattle.g1_handles.proofs.heap.phases.gather.Goals as goal

pub loop-i-preserved : goal.loop-i-preserved
loop-i-preserved g c =
    let i = c.loop-i.invariant in
    let hs = c.loop-i.handles in
    let old = c.args.handles.now in
    let n = c.loop-i.i in
    let h = c.index-handles-i.result in
    let value = g.H.AnyHandle.value in
    let below : n < length old = omega (arith, c.loop-i-test.true, i.sized) in
    let here : n < length hs = omega (arith, c.loop-i-test.true, i.sized) in
    let party = c.deref_mut.result.now in
    let had : value (slice_index_or old n h) ≡ Some party =
    sym (ap value (i.rest n h (omega arith))) ∙ (ap value (sym c.replace.ensures.value) ∙ (c.in-Some.ensures ∙ ap (λ (m : Party g.row.P.Denot g.P.Role). Some m) (sym c.deref_mut.ensures.value))) in
    let role : party.role ≡ Some c.in-Some-park.role = sym c.park.ensures.role ∙ c.in-Some-park.is in
    record {
      sized = length-set hs n _ ∙ i.sized;
      role_count = omega (arith, i.role_count, c.push_reserved.ensures.len);
      box_count = omega (arith, i.box_count, c.push_reserved-in-loop-i.ensures.len);
      role_room = c.push_reserved.ensures.capacity ∙ i.role_room;
      box_room = c.push_reserved-in-loop-i.ensures.capacity ∙ i.box_room;
      closed = AllWithin-more_set hs n _ here (λ x. value x ≡ None) i.closed (ap value c.replace.ensures.after ∙ c.closed.ensures);
      rest = λ k d le. get_or-set_other hs n k _ d (omega (arith, le)) ∙ i.rest k d (omega (arith, le));
      of = λ race all.
          let Q : g.row.P.Denot → Type 0 = λ p. g.P.Role.of p ≡ race_id race in
          let of = role_is_of party _ race role (subst (BelongsTo race) had (at_handle value (BelongsTo race) old n h below all)) in
          subst (All Q) (sym c.push_reserved.ensures.items) (All-push Q _ _ (i.of race all) of);
      waiting = λ race all.
          let Q : Box (Party g.row.P.Denot g.P.Role) Global → Type 0 = λ m. arc_value m.value.race ≡ race in
          let of : arc_value party.race ≡ race = subst (BelongsTo race) had (at_handle value (BelongsTo race) old n h below all) in
          subst (All Q) (sym c.push_reserved-in-loop-i.ensures.items) (All-push Q _ _ (i.waiting race all) (c.park.ensures.race ∙ of));
      counted = view_next value (λ (m : Box (Party g.row.P.Denot g.P.Role) Global). m.value.counts) counts_of _ _ _ old n h below c.push_reserved-in-loop-i.ensures.items i.counted
          (c.park.ensures.counts ∙ sym (ap counts_of had));
      given = view_next value (λ (p : g.row.P.Denot). Some p) role_in _ _ _ old n h below c.push_reserved.ensures.items i.given (sym (ap role_in had ∙ role));
    }

pub returns-clause-closed : goal.returns-clause-closed
returns-clause-closed g c =
    let i = c.loop-i.invariant in
    let hs = c.loop-i.handles in
    let value = g.H.AnyHandle.value in
    All-map (λ v. v ≡ None) value hs
    (All-from_all_within (λ x. value x ≡ None) hs (AllWithin-upto (λ x. value x ≡ None) hs 0 c.loop-i.i (length hs) (omega (arith, c.loop-i-test.false, i.sized)) i.closed))

pub returns-clause-parties : goal.returns-clause-parties
returns-clause-parties g c race all =
    let i = c.loop-i.invariant in
    record {
      box_count = omega (arith, i.box_count, c.loop-i-test.false, c.loop-i.auto.i-end);
      role_count = omega (arith, i.role_count, c.loop-i-test.false, c.loop-i.auto.i-end);
      waiting = i.waiting race all;
      of = i.of race all;
    }

pub unreachable-requires : goal.unreachable-requires
unreachable-requires g c =
    let i = c.loop-i.invariant in
    let old = c.args.handles.now in
    let n = c.loop-i.i in
    let h = c.index-handles-i.result in
    let value = g.H.AnyHandle.value in
    let has = at_handle value (λ m. IsSome (role_in m)) old n h (omega (arith, c.loop-i-test.true, i.sized)) c.requires.roles in
    let none = sym (ap value (i.rest n h (omega arith))) ∙ (ap value (sym c.replace.ensures.value) ∙ c.in_default.ensures) in
    none_is_some _ has (ap role_in none)

pub unreachable-requires-in_default-park : goal.unreachable-requires-in_default-park
unreachable-requires-in_default-park g c =
    let i = c.loop-i.invariant in
    let old = c.args.handles.now in
    let n = c.loop-i.i in
    let h = c.index-handles-i.result in
    let value = g.H.AnyHandle.value in
    let has = at_handle value (λ m. IsSome (role_in m)) old n h (omega (arith, c.loop-i-test.true, i.sized)) c.requires.roles in
    let party = c.deref_mut.result.now in
    let had : value (slice_index_or old n h) ≡ Some party =
    sym (ap value (i.rest n h (omega arith))) ∙ (ap value (sym c.replace.ensures.value) ∙ (c.in-Some.ensures ∙ ap (λ (m : Party g.row.P.Denot g.P.Role). Some m) (sym c.deref_mut.ensures.value))) in
    none_is_some _ has (ap role_in had ∙ (sym c.park.ensures.role ∙ c.in_default-park.is))
