use Rattle.std.specs.Prelude.{◌≡◌, ◌<◌}
use Rattle.g1_sets.specs.{◌∙◌, subst, sym, All, IfOk, card_count, AreInOrder, lists_of, AreCardsOf, list_at}
use Rattle.g1_sets.specs.Pairs.{Pairs}
use Rattle.g1_sets.proofs.{cards_if, list_here}
use Rattle.g1_sets.proofs.sets.Sets.cards.Goals as goal

pub ascending-requires-clause-below : goal.ascending-requires-clause-below
ascending-requires-clause-below c =
    let here : list_at (lists_of c.self.inside.sets.items) c.args.region ≡ c.index-members.result.now.keys = list_here c.self.inside.sets.items c.number.result c.args.region c.index-members.result.now c.self.inside.layout.regions c.index-members.ensures c.number.ensures c.self.invariant.of_heap.count (subst (λ (s : Pairs). c.args.region < s.layout.regions) (sym c.self.view_is) c.requires) in
    subst (λ cards. All (λ card. card < card_count c.self.inside.layout) cards) (here ∙ sym c.as_slice.ensures.keys) (c.self.invariant.of_heap.below c.args.region)

pub returns : goal.returns
returns c =
    let here : list_at (lists_of c.self.inside.sets.items) c.args.region ≡ c.index-members.result.now.keys = list_here c.self.inside.sets.items c.number.result c.args.region c.index-members.result.now c.self.inside.layout.regions c.index-members.ensures c.number.ensures c.self.invariant.of_heap.count (subst (λ (s : Pairs). c.args.region < s.layout.regions) (sym c.self.view_is) c.requires) in
    let listed : c.as_slice.result.now ≡ list_at (lists_of c.self.inside.sets.items) c.args.region = c.as_slice.ensures.keys ∙ sym here in
    subst (λ (s : Pairs). IfOk c.ascending.result (λ cards. AreCardsOf s.pairs c.args.region cards.items)) c.self.view_is
    (cards_if c.self.inside.layout (lists_of c.self.inside.sets.items) c.self.invariant.of_heap c.args.region c.ascending.result (subst (λ list. IfOk c.ascending.result (λ cards. AreInOrder list cards.items)) listed c.ascending.ensures))
