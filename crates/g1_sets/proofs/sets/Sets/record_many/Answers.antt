use Rattle.std.specs.Prelude.{◌≡◌, ◌<◌, ◌++◌}
use Rattle.g1_sets.specs.{ap, subst, sym, ◌∙◌, length, take, drop, arith, All, slice_set, card_count, list_at, with_cards, pairs_of, of_region, AreSets, RowsGain, lists_of}
use Rattle.std.specs.FinSet as set
use Rattle.g1_sets.specs.Pairs.{Pairs}
use Rattle.g1_sets.proofs.{many_pairs, sets_many, whole}
use Rattle.g1_sets.proofs.sets.Sets.record_many.Goals as goal

sets_now : (c : goal.After-self-3-1) → take c.self.inside.sets.len (c.insert_many.new.sets ++ drop (length c.insert_many.new.sets) c.self.inside.sets.items) ≡ c.insert_many.new.sets
sets_now c = whole c.insert_many.new.sets c.self.inside.sets.items c.self.inside.sets.len (c.insert_many.auto.sets ∙ c.make_room_for.auto.sets ∙ c.as_mut_slice-sets.ensures.len)

lists : (c : goal.After-self-3-1) → lists_of c.insert_many.new.sets ≡ slice_set (lists_of c.self.inside.sets.items) c.args.region (with_cards (list_at (lists_of c.self.inside.sets.items) c.args.region) c.args.cards.now)
lists c = c.insert_many.ensures ∙ ap (λ ls. slice_set ls c.args.region (with_cards (list_at ls c.args.region) c.args.cards.now)) (c.make_room_for.ensures.cards ∙ ap lists_of c.as_mut_slice-sets.ensures.value)

within : (c : goal.After-self-3-1) → c.args.region < length (lists_of c.self.inside.sets.items)
within c =
    let regions : c.args.region < c.self.inside.layout.regions = subst (λ (s : Pairs). c.args.region < s.layout.regions) (sym c.self.view_is) c.requires.region in
    omega (arith, regions, c.self.invariant.of_heap.count)

pub invariant_of-self-2 : goal.invariant_of-self-2
invariant_of-self-2 c =
    let below : All (λ card. card < card_count c.self.inside.layout) c.args.cards.now = subst (λ (s : Pairs). All (λ card. card < card_count s.layout) c.args.cards.now) (sym c.self.view_is) c.requires.cards in
    let long : length c.add_region.new.rows ≡ c.self.inside.rows.len = c.add_region.auto.rows ∙ c.as_mut_slice.ensures.len in
    subst (λ sets. AreSets c.self.inside.layout (lists_of sets) (take c.self.inside.rows.len (c.add_region.new.rows ++ drop (length c.add_region.new.rows) c.self.inside.rows.items))) (sym (sets_now c)) (subst (λ rows. AreSets c.self.inside.layout (lists_of c.insert_many.new.sets) rows) (sym (whole c.add_region.new.rows c.self.inside.rows.items c.self.inside.rows.len long))
    (subst (λ ls. AreSets c.self.inside.layout ls c.add_region.new.rows) (sym (lists c))
    (sets_many c.self.inside.layout (lists_of c.self.inside.sets.items) c.self.inside.rows.items c.self.invariant c.args.region c.add_region.new.rows (within c) (c.add_region.auto.rows ∙ ap length c.as_mut_slice.ensures.value) c.args.cards.now below
    (subst (λ rows. RowsGain c.args.cards.now c.args.region rows c.add_region.new.rows) c.as_mut_slice.ensures.value c.add_region.ensures))))

pub returns-clause-pairs : goal.returns-clause-pairs
returns-clause-pairs c =
    ap (λ sets. pairs_of (lists_of sets)) (sets_now c) ∙ ap pairs_of (lists c) ∙ many_pairs (lists_of c.self.inside.sets.items) c.args.region c.args.cards.now (within c)
    ∙ ap (λ (s : Pairs). set.union s.pairs (of_region c.args.cards.now c.args.region)) c.self.view_is
