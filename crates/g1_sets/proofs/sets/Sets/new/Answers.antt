use Rattle.std.specs.Prelude.{◌≡◌}
use Rattle.g1_sets.specs.{ap, subst, sym, ◌∙◌, [], rules, replicate, card_count, pairs_of, AreSets, lists_of}
use Rattle.g1_sets.proofs.{none_recorded, sets_empty}
use Rattle.g1_sets.proofs.sets.Sets.new.Goals as goal

lists : (c : goal.In_ok-rows) → lists_of c.in_ok-sets.sets.items ≡ replicate c.args.layout.regions []
lists c = c.in_ok-sets.ensures ∙ ap (λ n. replicate n []) c.counts-regions.ensures.regions

pub invariant_of-result : goal.invariant_of-result
invariant_of-result c =
    let rows : c.in_ok-rows.rows.items ≡ replicate (card_count c.args.layout) c.new.result = search rules in
    subst (λ ls. AreSets c.args.layout ls c.in_ok-rows.rows.items) (sym (lists c)) (subst (AreSets c.args.layout (replicate c.args.layout.regions [])) (sym rows) (sets_empty c.args.layout c.new.result c.new.ensures))

pub returns : goal.returns
returns c = λ i. record { layout = c.args.layout; pairs = (ap pairs_of (lists c) ∙ none_recorded c.args.layout.regions) i; lists = lists c i }
