use Rattle.std.specs.Prelude.{◌≡◌, ◌<◌, ◌≤◌, ◌^◌}
use Rattle.g1_sets.specs.{◌∙◌, ℕ, List, length, min, ap, sym, subst, arith, sum_by, IsWithinProfile, pairs_of, HasOnlyOutside, lists_of}
use Rattle.std.specs.FinSet as set
use Rattle.g1_sets.specs.Pairs.{Pairs}
use Rattle.g1_sets.proofs.BoundLemmas.{few_pairs, few_in_profile, few_outside}
use Rattle.g1_sets.proofs.{to_set}
use Rattle.g1_sets.proofs.TotalLemmas.{total_is}
use Rattle.g1_sets.proofs.sets.Sets.total.Goals as goal

pub total-pairs-requires : goal.total-pairs-requires
total-pairs-requires c =
    let few = few_pairs c.self.inside.layout (lists_of c.self.inside.sets.items) c.counts.ensures.shape c.self.invariant.of_heap in
    subst (λ sets. sum_by length (lists_of sets) < 2 ^ 64) (sym c.as_slice.ensures.value) (omega (arith, few))

-- what was summed up
summed : (c : goal.After-min) → c.total-pairs.result ≡ sum_by length (lists_of c.self.inside.sets.items)
summed c = c.total-pairs.ensures ∙ ap (λ sets. sum_by length (lists_of sets)) c.as_slice.ensures.value

-- is the number of pairs
pairs_are : (c : goal.After-min) → c.total-pairs.result ≡ set.len c.args.self.now.pairs
pairs_are c = summed c ∙ total_is (lists_of c.self.inside.sets.items) c.self.invariant.of_heap.distinct ∙ ap (λ (s : Pairs). set.len s.pairs) c.self.view_is

exact_if : (c : goal.After-min) → sum_by length (lists_of c.self.inside.sets.items) < 2 ^ 32 → c.min.result ≡ set.len c.args.self.now.pairs
exact_if c few = let all = summed c in let le : c.total-pairs.result ≤ 4294967295 = omega (arith, all, few) in omega (arith, c.min.ensures, le, pairs_are c)

pub returns-clause-total : goal.returns-clause-total
returns-clause-total c = c.min.ensures ∙ ap (λ n. min n 4294967295) (pairs_are c)

pub returns-clause-outside : goal.returns-clause-outside
returns-clause-outside c outside =
    let lists : List (List ℕ) = lists_of c.self.inside.sets.items in
    let here : HasOnlyOutside c.self.inside.layout (pairs_of lists) = subst (λ (s : Pairs). HasOnlyOutside s.layout s.pairs) (sym c.self.view_is) outside in
    exact_if c (few_outside c.self.inside.layout lists c.counts.ensures.shape c.self.invariant.of_heap (λ there. here 0 0 (to_set lists 0 0 there) (omega arith)))

pub returns-clause-profile : goal.returns-clause-profile
returns-clause-profile c within =
    exact_if c (few_in_profile c.self.inside.layout (lists_of c.self.inside.sets.items) (subst (λ (s : Pairs). IsWithinProfile s.layout) (sym c.self.view_is) within) c.self.invariant.of_heap)
