use Rattle.std.specs.Prelude.{◌<◌}
use Rattle.g1_sets.specs.{ap, subst, sym, ◌∙◌, nat_eq, list_any, lists_of}
use Rattle.std.specs.FinSet as set
use Rattle.g1_sets.specs.Pairs.{Pairs}
use Rattle.g1_sets.proofs.{found, list_here}
use Rattle.g1_sets.proofs.sets.Sets.has.Goals as goal

pub returns : goal.returns
returns c =
    c.contains.ensures
    ∙ ap (λ cards. list_any (nat_eq c.args.card) cards) (sym (list_here c.self.inside.sets.items c.number.result c.args.region c.index.result.now c.self.inside.layout.regions c.index.ensures c.number.ensures c.self.invariant.of_heap.count (subst (λ (s : Pairs). c.args.region < s.layout.regions) (sym c.self.view_is) c.requires)))
    ∙ found (lists_of c.self.inside.sets.items) c.args.card c.args.region
    ∙ ap (λ (s : Pairs). set.contains s.pairs (c.args.card, c.args.region)) c.self.view_is
