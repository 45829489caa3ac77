use Rattle.std.specs.Prelude.{◌≡◌, ◌<◌, ◌∷◌}
use Rattle.g1_sets.specs.{◌∙◌, [], suc, subst, sym, length, arith, All, lists_of, Joins}
use Rattle.g1_sets.proofs.ListLemmas.{joins_first}
use Rattle.g1_sets.proofs.members.join.Goals as goal

pub insert_into-requires-clause-within : goal.insert_into-requires-clause-within
insert_into-requires-clause-within c =
    let parts : c.args.regions.now ≡ c.in-Some.first.now ∷ c.in-Some.others.now = c.in-Some.ensures.cases.0 in
    let all : All (λ region. region < length c.args.sets.now) (c.in-Some.first.now ∷ c.in-Some.others.now) = subst (All (λ region. region < length c.args.sets.now)) parts c.requires.within in
    let long : length c.insert_first.new.sets ≡ length c.args.sets.now = c.insert_first.auto.sets ∙ c.make_rooms.auto.sets in
    subst (λ n. All (λ region. region < n) c.in-Some.others.now) (sym long) (λ k d lt. all (suc k) d (omega (arith, lt)))

pub returns-clause-joins : goal.returns-clause-joins
returns-clause-joins c =
    let parts : c.args.regions.now ≡ c.in-Some.first.now ∷ c.in-Some.others.now = c.in-Some.ensures.cases.0 in
    let first : Joins c.args.card (c.in-Some.first.now ∷ []) (lists_of c.args.sets.now) (lists_of c.insert_first.new.sets) =
    subst (λ ls. Joins c.args.card (c.in-Some.first.now ∷ []) ls (lists_of c.insert_first.new.sets)) c.make_rooms.ensures.cards c.in_ok-insert_first.ensures.joins in
    subst (λ rs. Joins c.args.card rs (lists_of c.args.sets.now) (lists_of c.insert_into.new.sets)) (sym parts)
    (joins_first c.args.card c.in-Some.first.now c.in-Some.others.now (lists_of c.args.sets.now) (lists_of c.insert_first.new.sets) (lists_of c.insert_into.new.sets) first c.insert_into.ensures.joins)
