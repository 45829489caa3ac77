use Rattle.std.specs.Prelude.{◌≡◌}
use Rattle.g1_core.specs.{◌∙◌, ap, sym, length, eqb-true}
use Rattle.g1_core.proofs.RefinedLemmas.{gained_is, gained_nothing}
use Rattle.g1_core.proofs.heap_and_sets.HeapAndSets.record.Goals as goal

pub returns-then-is_empty-clause-pairs : goal.returns-then-is_empty-clause-pairs
returns-then-is_empty-clause-pairs c =
    let none : length c.list_targets.new.targets.items ≡ 0 = sym (ap length c.as_slice.ensures.value) ∙ eqb-true (length c.as_slice.result.now) 0 (sym c.is_empty.ensures ∙ c.if-is_empty.true) in
    gained_nothing c.args.self.now.heap c.args.self.now.sets.pairs c.args.card c.regions_of-known.result.now c.regions_of-known.ensures c.list_targets.new.targets.items none c.list_targets.ensures.holds

pub returns-clause-pairs : goal.returns-clause-pairs
returns-clause-pairs c = rw (c.in_ok-record.ensures.pairs, c.as_slice-2.ensures.value) (gained_is c.args.self.now.heap c.args.self.now.sets.pairs c.args.card c.regions_of-known.result.now c.regions_of-known.ensures c.list_targets.new.targets.items c.list_targets.ensures.holds)
