use Rattle.std.specs.Prelude.{◌≡◌}
use Rattle.g1_heap.specs.{inl, inr, arith, get_or, cases_lt}
use Rattle.g1_heap.proofs.{word_of_group}
use Rattle.g1_heap.proofs.entering.first_between.Goals as goal

pub loop-at-preserved-then-not-has_reference : goal.loop-at-preserved-then-not-has_reference
loop-at-preserved-then-not-has_reference c = record {
  from = omega (arith, c.loop-at.invariant.from);
  end = omega (arith, c.if-row-at-ge-GROUP.true);
  before = λ k from lt low high. elim (cases_lt k c.loop-at.at) [
    | inl earlier ↦ c.loop-at.invariant.before k from earlier low high
    | inr here ↦
        let null : get_or c.args.row.now k 0 ≡ 4294967295 = word_of_group c.args.row.now c.loop-at.at k 4294967295 (c.has_reference.ensures c.if-not-has_reference.true) here lt in
        omega (arith, null, high, c.requires.places)
  ];
}
