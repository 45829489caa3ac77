-- The last box of the one list moves to the end of the other.
use Rattle.std.specs.Prelude.{◌≡◌, ◌<◌, ◌-◌, ◌++◌, IsPermutation}
use Rattle.g1_handles.specs.{List, Box, All, take, slice_index_or, vec_len, sym, ◌∙◌, subst, refl, arith, Global, arc_value, All-push, All-take, Party}
use Rattle.std.proofs.lemmas.List.Sorted.{IsPermutation-pop_more}
use Rattle.g1_handles.proofs.{popped, last_taken}
use Rattle.g1_handles.proofs.heap.reading.move_boxes.Goals as goal

pub loop-i-preserved : goal.loop-i-preserved
loop-i-preserved g c =
    let i = c.loop-i.invariant in
    let items = c.loop-i.from.items in
    let n = vec_len c.loop-i.from in
    let m = c.in-Some.party in
    let some : 0 < n = omega (arith, c.in-Some.ensures.cases) in
    let last : m ≡ slice_index_or items (n - 1) m = popped items items n n m m some refl (λ k d below. refl) (c.in-Some.ensures.value m some) in
    record {
      from_count = omega (arith, i.from_count, c.in-Some.ensures.cases);
      to_count = omega (arith, i.to_count, c.push_reserved.ensures.len);
      from_room = c.pop.ensures.capacity ∙ i.from_room;
      to_room = c.push_reserved.ensures.capacity ∙ i.to_room;
      same = subst (λ (x : List (Box (Party g.row.P.Denot g.P.Role) Global) × List (Box (Party g.row.P.Denot g.P.Role) Global)). IsPermutation (c.args.to.now.items ++ c.args.from.now.items) (x.0 ++ x.1))
          (λ i. (sym c.push_reserved.ensures.items i, sym c.pop.ensures.rest i))
          (IsPermutation-pop_more _ c.loop-i.to.items items (take (n - 1) items) m i.same (last_taken items n m some c.loop-i.from.ok.0 last));
      waiting = λ race from to.
          let Q : Box (Party g.row.P.Denot g.P.Role) Global → Type 0 = λ b. arc_value b.value.race ≡ race in
          let all = i.waiting race from to in
          let of : Q m = subst Q (sym last) (all.0 (n - 1) m (omega (arith, some, c.loop-i.from.ok.0))) in (
            subst (All Q) (sym c.pop.ensures.rest) (All-take Q (n - 1) items all.0),
            subst (All Q) (sym c.push_reserved.ensures.items) (All-push Q _ _ all.1 of),
          );
    }
