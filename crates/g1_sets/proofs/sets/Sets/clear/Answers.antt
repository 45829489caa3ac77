use Rattle.std.specs.Prelude.{◌≡◌, ◌<◌, ◌++◌}
use Rattle.g1_sets.specs.{ap, subst, sym, ◌∙◌, length, take, drop, arith, [], All, slice_set, card_count, pairs_of, without, AreSets, RowsLose, lists_of}
use Rattle.g1_sets.specs.Pairs.{Pairs}
use Rattle.g1_sets.proofs.{emptied_pairs, sets_cleared, lists_set, list_here, whole}
use Rattle.g1_sets.proofs.sets.Sets.clear.Goals as goal

within : (c : goal.After-self-2-1) → c.args.region < length (lists_of c.self.inside.sets.items)
within c =
    let regions : c.args.region < c.self.inside.layout.regions = subst (λ (s : Pairs). c.args.region < s.layout.regions) (sym c.self.view_is) c.requires in
    omega (arith, regions, c.self.invariant.of_heap.count)

lists : (c : goal.After-self-2-1) → lists_of (slice_set c.self.inside.sets.items c.number.result c.clear.new.self) ≡ slice_set (lists_of c.self.inside.sets.items) c.args.region []
lists c = lists_set c.self.inside.sets.items c.number.result c.clear.new.self ∙ ap (λ n. slice_set (lists_of c.self.inside.sets.items) n c.clear.new.self.keys) c.number.ensures ∙ ap (λ cards. slice_set (lists_of c.self.inside.sets.items) c.args.region cards) c.clear.ensures.empty

pub remove_region-requires-clause-cards : goal.remove_region-requires-clause-cards
remove_region-requires-clause-cards c = subst (λ n. All (λ card. card < n) c.as_slice.result.now) (sym (ap length c.as_mut_slice.ensures.value ∙ c.self.invariant.count))
    (subst (All (λ card. card < card_count c.self.inside.layout))
    (list_here c.self.inside.sets.items c.number.result c.args.region c.index_mut-members.result.now c.self.inside.layout.regions c.index_mut-members.ensures.value c.number.ensures c.self.invariant.of_heap.count (subst (λ (s : Pairs). c.args.region < s.layout.regions) (sym c.self.view_is) c.requires) ∙ sym c.as_slice.ensures.keys)
    (c.self.invariant.of_heap.below c.args.region))

pub invariant_of-self : goal.invariant_of-self
invariant_of-self c =
    let rows = c.remove_region.new.rows in
    let members = c.as_slice.ensures.keys ∙ sym (list_here c.self.inside.sets.items c.number.result c.args.region c.index_mut-members.result.now c.self.inside.layout.regions c.index_mut-members.ensures.value c.number.ensures c.self.invariant.of_heap.count
    (subst (λ (s : Pairs). c.args.region < s.layout.regions) (sym c.self.view_is) c.requires)) in
    subst (λ ls. AreSets c.self.inside.layout ls (take c.self.inside.rows.len (rows ++ drop (length rows) c.self.inside.rows.items))) (sym (lists c))
    (subst (AreSets c.self.inside.layout (slice_set (lists_of c.self.inside.sets.items) c.args.region [])) (sym (whole rows c.self.inside.rows.items c.self.inside.rows.len (c.remove_region.auto.rows ∙ c.as_mut_slice.ensures.len)))
    (sets_cleared c.self.inside.layout (lists_of c.self.inside.sets.items) c.self.inside.rows.items c.self.invariant c.args.region rows (within c) (c.remove_region.auto.rows ∙ ap length c.as_mut_slice.ensures.value)
    (subst (λ cards. RowsLose cards c.args.region c.self.inside.rows.items rows) members (subst (λ old. RowsLose c.as_slice.result.now c.args.region old rows) c.as_mut_slice.ensures.value c.remove_region.ensures))))

pub returns-clause-pairs : goal.returns-clause-pairs
returns-clause-pairs c = ap pairs_of (lists c) ∙ emptied_pairs (lists_of c.self.inside.sets.items) c.args.region (within c) ∙ ap (λ (s : Pairs). without s.pairs c.args.region) c.self.view_is

pub returns-clause-lists : goal.returns-clause-lists
returns-clause-lists c = lists c ∙ ap (λ (s : Pairs). slice_set s.lists c.args.region []) c.self.view_is
