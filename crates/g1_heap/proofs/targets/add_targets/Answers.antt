use Rattle.std.specs.Prelude.{◌≡◌, ◌+◌, ◌-◌, ◌*◌, ◌/◌}
use Rattle.g1_heap.specs.{◌∙◌, arith, ap, length, get_or, take, drop, refl, subst, ℕ, ArrayVec, array_vec_len, slot_count_limit, IsListedUpTo}
use Rattle.g1_heap.proofs.{ref_of-null, word_of_group}
use Rattle.g1_heap.proofs.ListingLemmas.{listed_none, listed_nulls, listed_as}
use Rattle.g1_heap.proofs.TargetLemmas.{listed_all}
use Rattle.g1_heap.proofs.targets.add_targets.Goals as goal
use Rattle.g1_heap.proofs.targets.add_targets.Goals.{then-has_reference, else-has_reference}

pub loop-group-init : goal.loop-group-init
loop-group-init c = record {
  room = omega (arith, ap length c.requires.empty);
  listed = listed_as c.args.layout.now _ c.insert.new.self 0 c.insert.new.self c.insert.new.self _ c.args.targets.now.items refl c.requires.empty (listed_none c.args.layout.now _ c.insert.new.self);
}

pub loop-group-preserved : goal.loop-group-preserved
loop-group-preserved c =
    let row = take (c.number-first.result + c.counts-slots.result.2 - c.number-first.result) (drop c.number-first.result c.args.words.now) in
    let at : ℕ = c.loop-group.group * 8 in
    let next : at + 8 ≡ (c.loop-group.group + 1) * 8 = omega arith in
    elim c.if-has_reference.branch [
      | then-has_reference w ↦ record {
        room = omega (arith, ap array_vec_len w.targets-is, w.add_each.ensures.room);
        listed = subst (λ n. IsListedUpTo c.args.layout.now row c.insert.new.self n c.if-has_reference.seen c.if-has_reference.targets.items) next
            (listed_as c.args.layout.now row c.insert.new.self (at + 8) _ c.if-has_reference.seen _ c.if-has_reference.targets.items w.seen-is (ap (λ (v : ArrayVec ℕ). v.items) w.targets-is) (w.add_each.ensures.listed c.insert.new.self c.loop-group.invariant.listed));
      }
      | else-has_reference w ↦ record {
        room = omega (arith, ap array_vec_len w.targets-is, c.loop-group.invariant.room);
        listed = subst (λ n. IsListedUpTo c.args.layout.now row c.insert.new.self n c.if-has_reference.seen c.if-has_reference.targets.items) next
            (listed_as c.args.layout.now row c.insert.new.self (at + 8) _ c.if-has_reference.seen _ c.if-has_reference.targets.items w.seen-is (ap (λ (v : ArrayVec ℕ). v.items) w.targets-is)
            (listed_nulls c.args.layout.now row c.insert.new.self at (at + 8) c.loop-group.seen c.loop-group.targets.items (omega arith) (λ k from lt.
            let null : get_or row k 0 ≡ 4294967295 = word_of_group row at k 4294967295 (c.has_reference.ensures w.if-has_reference.false) from lt in
            ref_of-null c.args.layout.now (get_or row k 0) (omega (arith, null, slot_count_limit c.args.layout.now c.counts-slots.ensures.shape)))
            c.loop-group.invariant.listed));
      }
    ]

pub returns : goal.returns
returns c =
    let row = take (c.number-first.result + c.counts-slots.result.2 - c.number-first.result) (drop c.number-first.result c.args.words.now) in
    let groups : c.loop-group.group ≡ length row / 8 = omega (arith, c.loop-group-test.false, c.loop-group.auto.group-end) in
    listed_all c.args.layout.now c.args.words.now c.args.card c.region_of_card.result c.number-first.result c.counts-slots.result.2
    c.region_of_card.ensures.quotient (c.number-first.ensures ∙ c.first_slot.ensures.first) c.counts-slots.ensures.slots c.counts-slots.ensures.shape (omega arith)
    c.args.known.now c.insert.new.self c.add_each-2.new.seen _ c.add_each-2.new.targets.items c.insert.ensures (omega arith)
    (c.add_each-2.ensures.listed c.insert.new.self (subst (λ n. IsListedUpTo c.args.layout.now row c.insert.new.self (n * 8) c.loop-group.seen c.loop-group.targets.items) groups c.loop-group.invariant.listed))
