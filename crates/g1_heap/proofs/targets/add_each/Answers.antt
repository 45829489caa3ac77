use Rattle.std.specs.Prelude.{◌≡◌, ◌+◌, ◌-◌, ◌<◌}
use Rattle.g1_heap.specs.{◌∙◌, arith, ap, length, get_or, take, drop, subst, sym, ℕ, true≢false, get_or-take, get_or-drop, length-take, length-drop, ArrayVec, array_vec_len, IsListedUpTo, ref_of}
use Rattle.g1_heap.proofs.{ref_of-slot}
use Rattle.g1_heap.proofs.ListingLemmas.{listed_null, listed_known, listed_fresh, listed_as}
use Rattle.g1_heap.proofs.targets.add_each.Goals as goal
use Rattle.g1_heap.proofs.targets.add_each.Goals.{in-Some+then-not-contains, in-Some+else-not-contains, in_default}

pub loop-word-init : goal.loop-word-init
loop-word-init c = record { room = omega (arith, c.requires.room); listed = λ known h. let e : c.args.from ≡ c.args.from + 0 = omega arith in subst (λ n. IsListedUpTo c.args.layout.now c.args.row.now known n c.args.seen.now c.args.targets.now.items) e h }

pub loop-word-preserved : goal.loop-word-preserved
loop-word-preserved c =
    let at : ℕ = c.args.from + c.loop-word.word-index in
    let few : c.loop-word.word-index < c.args.end - c.args.from = omega (arith, c.loop-word-test.true, length-take (c.args.end - c.args.from) (drop c.args.from c.args.row.now)) in
    let inside : at < length c.args.row.now = omega (arith, few, c.requires.within) in
    let word : get_or (take (c.args.end - c.args.from) (drop c.args.from c.args.row.now)) c.loop-word.word-index 0 ≡ get_or c.args.row.now at 0 =
    get_or-take (c.args.end - c.args.from) (drop c.args.from c.args.row.now) c.loop-word.word-index 0 few ∙ get_or-drop c.args.from c.args.row.now c.loop-word.word-index 0 in
    let made : ref_of c.args.layout.now (get_or c.args.row.now at 0) ≡ c.slot.result = sym (ref_of-slot c.args.layout.now _ c.slot.result c.slot.ensures ∙ ap (ref_of c.args.layout.now) word) in
    let next : at + 1 ≡ c.args.from + (c.loop-word.word-index + 1) = omega arith in
    elim c.match-slot.branch [
      | in-Some+then-not-contains w ↦ record {
        room = omega (arith, ap array_vec_len w.targets-is, w.push.ensures.len, c.loop-word.invariant.room);
        listed = λ known h. subst (λ n. IsListedUpTo c.args.layout.now c.args.row.now known n c.match-slot.seen c.match-slot.targets.items) next
            (listed_as c.args.layout.now c.args.row.now known (at + 1) _ c.match-slot.seen _ c.match-slot.targets.items w.seen-is (ap (λ (v : ArrayVec ℕ). v.items) w.targets-is ∙ w.push.ensures.items)
            (listed_fresh c.args.layout.now c.args.row.now known at c.loop-word.seen c.loop-word.targets.items w.in-Some.place w.region_of-region.result inside (made ∙ w.in-Some.is) w.region_of-region.ensures.quotient
            (λ has. true≢false (sym (w.contains.ensures.1 has) ∙ w.if-not-contains.true)) (c.loop-word.invariant.listed known h) w.insert.new.self w.insert.ensures));
      }
      | in-Some+else-not-contains w ↦ record {
        room = omega (arith, ap array_vec_len w.targets-is, c.loop-word.invariant.room);
        listed = λ known h. subst (λ n. IsListedUpTo c.args.layout.now c.args.row.now known n c.match-slot.seen c.match-slot.targets.items) next
            (listed_as c.args.layout.now c.args.row.now known (at + 1) _ c.match-slot.seen _ c.match-slot.targets.items w.seen-is (ap (λ (v : ArrayVec ℕ). v.items) w.targets-is)
            (listed_known c.args.layout.now c.args.row.now known at c.loop-word.seen c.loop-word.targets.items w.in-Some.place w.region_of-region.result (made ∙ w.in-Some.is) w.region_of-region.ensures.quotient
            (w.contains.ensures.0 w.if-not-contains.false) (c.loop-word.invariant.listed known h)));
      }
      | in_default w ↦ record {
        room = omega (arith, ap array_vec_len w.targets-is, c.loop-word.invariant.room);
        listed = λ known h. subst (λ n. IsListedUpTo c.args.layout.now c.args.row.now known n c.match-slot.seen c.match-slot.targets.items) next
            (listed_as c.args.layout.now c.args.row.now known (at + 1) _ c.match-slot.seen _ c.match-slot.targets.items w.seen-is (ap (λ (v : ArrayVec ℕ). v.items) w.targets-is)
            (listed_null c.args.layout.now c.args.row.now known at c.loop-word.seen c.loop-word.targets.items (made ∙ w.in_default.is) (c.loop-word.invariant.listed known h)));
      }
    ]

pub returns-clause-listed : goal.returns-clause-listed
returns-clause-listed c = λ known h.
    let all : c.args.from + c.loop-word.word-index ≡ c.args.end = omega (arith, c.loop-word-test.false, c.loop-word.auto.word-index-end, c.requires.range, c.requires.within, length-take (c.args.end - c.args.from) (drop c.args.from c.args.row.now), length-drop c.args.from c.args.row.now) in
    subst (λ n. IsListedUpTo c.args.layout.now c.args.row.now known n c.loop-word.seen c.loop-word.targets.items) all (c.loop-word.invariant.listed known h)
