use Rattle.std.specs.Prelude.{◌≡◌, ◌<◌, ◌++◌}
use Rattle.g1_sets.specs.{ap, subst, sym, ◌∙◌, length, take, drop, arith, slice_set, card_count, Joins, pairs_of, of_card, AreSets, IsRowOf, lists_of}
use Rattle.std.specs.FinSet as set
use Rattle.g1_sets.specs.Pairs.{Pairs}
use Rattle.g1_sets.proofs.{joined_pairs, row_read, sets_joined, whole}
use Rattle.g1_sets.proofs.sets.Sets.record.Goals as goal

pub join-requires-clause-row : goal.join-requires-clause-row
join-requires-clause-row c =
    let card : c.args.card < card_count c.self.inside.layout = subst (λ (s : Pairs). c.args.card < card_count s.layout) (sym c.self.view_is) c.requires.card in
    subst (λ ls. IsRowOf ls c.args.card c.index_mut-row.result.now) (sym (ap lists_of c.as_mut_slice.ensures.value))
    (subst (IsRowOf (lists_of c.self.inside.sets.items) c.args.card) (row_read c.self.inside.rows.items c.number.result c.index_mut-row.result.now c.args.card c.index_mut-row.ensures.value c.number.ensures (omega (arith, card, c.number.ensures, c.self.invariant.count))) (c.self.invariant.each c.args.card card))

pub invariant_of-self-2 : goal.invariant_of-self-2
invariant_of-self-2 c =
    let card : c.args.card < card_count c.self.inside.layout = subst (λ (s : Pairs). c.args.card < card_count s.layout) (sym c.self.view_is) c.requires.card in
    let sets : take c.self.inside.sets.len (c.join.new.sets ++ drop (length c.join.new.sets) c.self.inside.sets.items) ≡ c.join.new.sets = whole c.join.new.sets c.self.inside.sets.items c.self.inside.sets.len (c.join.auto.sets ∙ c.as_mut_slice.ensures.len) in
    let joins : Joins c.args.card c.args.regions.now (lists_of c.self.inside.sets.items) (lists_of c.join.new.sets) =
    subst (λ ls. Joins c.args.card c.args.regions.now ls (lists_of c.join.new.sets)) (ap lists_of c.as_mut_slice.ensures.value) c.in_ok-join.ensures.joins in
    subst (λ sets. AreSets c.self.inside.layout (lists_of sets) (slice_set c.self.inside.rows.items c.number.result c.join.new.row)) (sym sets)
    (subst (λ n. AreSets c.self.inside.layout (lists_of c.join.new.sets) (slice_set c.self.inside.rows.items n c.join.new.row)) (sym c.number.ensures)
    (sets_joined c.self.inside.layout (lists_of c.self.inside.sets.items) c.self.inside.rows.items c.self.invariant c.args.card c.args.regions.now (lists_of c.join.new.sets) c.join.new.row card joins c.in_ok-join.ensures.row))

pub returns-clause-pairs : goal.returns-clause-pairs
returns-clause-pairs c =
    let sets : take c.self.inside.sets.len (c.join.new.sets ++ drop (length c.join.new.sets) c.self.inside.sets.items) ≡ c.join.new.sets = whole c.join.new.sets c.self.inside.sets.items c.self.inside.sets.len (c.join.auto.sets ∙ c.as_mut_slice.ensures.len) in
    let joins : Joins c.args.card c.args.regions.now (lists_of c.self.inside.sets.items) (lists_of c.join.new.sets) =
    subst (λ ls. Joins c.args.card c.args.regions.now ls (lists_of c.join.new.sets)) (ap lists_of c.as_mut_slice.ensures.value) c.in_ok-join.ensures.joins in
    ap (λ sets. pairs_of (lists_of sets)) sets ∙ joined_pairs c.args.card c.args.regions.now (lists_of c.self.inside.sets.items) (lists_of c.join.new.sets) joins ∙ ap (λ (s : Pairs). set.union s.pairs (of_card c.args.card c.args.regions.now)) c.self.view_is
