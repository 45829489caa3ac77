use Rattle.std.specs.Prelude.{◌≡◌, ◌<◌, ◌≤◌}
use Rattle.g1_sets.specs.{ap, subst, sym, length, arith, card_count, card_count_limit, AreTied, list_at, lists_of}
use Rattle.g1_sets.specs.Pairs.{Pairs}
use Rattle.g1_sets.proofs.{tied, list_here}
use Rattle.g1_sets.proofs.BoundLemmas.{few_listed}
use Rattle.g1_sets.proofs.sets.Sets.len.Goals as goal

pub overflow_cast-result : goal.overflow_cast-result
overflow_cast-result c =
    let list : list_at (lists_of c.self.inside.sets.items) c.args.region ≡ c.index.result.now.keys = list_here c.self.inside.sets.items c.number.result c.args.region c.index.result.now c.self.inside.layout.regions c.index.ensures c.number.ensures c.self.invariant.of_heap.count (subst (λ (s : Pairs). c.args.region < s.layout.regions) (sym c.self.view_is) c.requires) in
    let few : length (list_at (lists_of c.self.inside.sets.items) c.args.region) ≤ card_count c.self.inside.layout = few_listed c.self.inside.layout (lists_of c.self.inside.sets.items) c.self.invariant.of_heap c.args.region in
    let same : length (list_at (lists_of c.self.inside.sets.items) c.args.region) ≡ length c.index.result.now.keys = ap length list in
    let most : card_count c.self.inside.layout ≤ 16777216 = card_count_limit c.self.inside.layout c.counts.ensures.shape in
    omega (arith, few, same, most, c.len.ensures.len)

pub returns-clause-tied : goal.returns-clause-tied
returns-clause-tied c = subst AreTied c.self.view_is (tied c.self.inside.layout (lists_of c.self.inside.sets.items) c.self.invariant.of_heap)
