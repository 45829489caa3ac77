use Rattle.std.specs.Prelude.{◌<◌, ◌↔◌}
use Rattle.g1_sets.specs.{arith, subst, sym, IsTrue, card_count, HasRegion, lists_of, IsRowOf}
use Rattle.std.specs.FinSet as set
use Rattle.g1_sets.specs.Pairs.{Pairs}
use Rattle.g1_sets.proofs.{to_set, in_set, row_read}
use Rattle.g1_sets.proofs.sets.Sets.regions_of.Goals as goal

pub returns : goal.returns
returns c =
    let lists = lists_of c.self.inside.sets.items in
    let card : c.args.card < card_count c.self.inside.layout = subst (λ (s : Pairs). c.args.card < card_count s.layout) (sym c.self.view_is) c.requires in
    let row : IsRowOf lists c.args.card c.index.result.now =
    subst (IsRowOf lists c.args.card) (row_read c.self.inside.rows.items c.number.result c.index.result.now c.args.card c.index.ensures c.number.ensures (omega (arith, card, c.number.ensures, c.self.invariant.count))) (c.self.invariant.each c.args.card card) in
    subst (λ (s : Pairs). (region : _) → HasRegion c.index.result.now region ↔ IsTrue (set.contains s.pairs (c.args.card, region))) c.self.view_is
    (λ region. (λ h. to_set lists c.args.card region ((row region).0 h), λ h. (row region).1 (in_set lists c.args.card region h)))
