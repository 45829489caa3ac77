use Rattle.std.specs.Prelude.{◌≡◌, ◌⊎◌}
use Rattle.g1_log.specs.{◌∙◌, List, false, sym, ap, rules, arith, subst, view, Parcel, newcomer, IsLeft, ahead_and}
use Rattle.g1_log.proofs.Passing.{admits}
use Rattle.g1_log.proofs.Ending.{learns_left, ends}
use Rattle.g1_log.proofs.Settles.{gathered, few, gathered_known, all_rights, opened, balance_left, order_left, numbers_left, count_left, ended_left, ended_knows}
use Rattle.g1_log.proofs.line.Line.settle.Goals as goal

pub pass-pass-requires : goal.pass-pass-requires
pass-pass-requires g c = admits

pub gather_senders-sent-requires-clause-senders : goal.gather_senders-sent-requires-clause-senders
gather_senders-sent-requires-clause-senders g c = (c.requires.senders, few c.args.senders.items c.args.takers.items c.requires.all)

pub gather_takers-requires-clause-pass : goal.gather_takers-requires-clause-pass
gather_takers-requires-clause-pass g c = (
  search rules,
  subst (λ v. (v ≡ newcomer) ⊎ (v.fresh ≡ false)) (sym c.gather_senders-sent.ensures.view)
      (gathered_known c.args.senders.items c.args.takers.items c.requires.all),
)

pub len_as-left-requires-clause-rule : goal.len_as-left-requires-clause-rule
len_as-left-requires-clause-rule g c =
    let is : view c.gather_takers.new.pass ≡ gathered c.args.senders.items c.args.takers.items = search rules in
    learns_left _ _ (ap (λ u. u.rights) is ∙ all_rights c.args.senders.items c.args.takers.items c.requires.all) (ap (λ u. u.fresh) is ∙ opened c.args.senders.items c.args.takers.items c.requires.all)

pub pop_as-ahead-requires-clause-rule : goal.pop_as-ahead-requires-clause-rule
pop_as-ahead-requires-clause-rule g c =
    let is : view c.len_as-left.new.pass ≡ gathered c.args.senders.items c.args.takers.items = search rules in
    let all = ap (λ u. u.rights) is ∙ all_rights c.args.senders.items c.args.takers.items c.requires.all in
    let known = ap (λ u. u.fresh) is ∙ opened c.args.senders.items c.args.takers.items c.requires.all in
    (ends _ _ all known, learns_left _ _ all known)

pub invariant_of-result : goal.invariant_of-result
invariant_of-result g c =
    let is : view c.len_as-left.new.pass ≡ gathered c.args.senders.items c.args.takers.items = search rules in
    let was : view c.gather_takers.new.pass ≡ gathered c.args.senders.items c.args.takers.items = search rules in
    let seen = c.len_as-left.ensures.rule.1 in
    let count = count_left c.args.senders.items c.args.takers.items c.requires.all seen.0 (subst (λ v. IsLeft v seen.0) was seen.2) in
    let length_is = seen.1 in let sent = c.gather_senders-sent.ensures.count in
    record {
      of = search rules;
      knows = ended_knows c.pop_as-ahead.result _ _ (ap (λ u. u.fresh) is ∙ opened c.args.senders.items c.args.takers.items c.requires.all) c.pop_as-ahead.ensures.rule;
      counts = omega arith;
    }

pub returns-clause-balance : goal.returns-clause-balance
returns-clause-balance g c =
    let is : view c.len_as-left.new.pass ≡ gathered c.args.senders.items c.args.takers.items = search rules in
    let left = ended_left c.pop_as-ahead.result _ _ c.pop_as-ahead.ensures.rule in
    let rest : List Parcel = ahead_and c.pop_as-ahead.result (view c.pop_as-ahead.new.pass).rest in
    balance_left c.args.senders.items c.args.takers.items c.requires.all rest (subst (λ v. IsLeft v rest) is left)

pub returns-clause-numbers : goal.returns-clause-numbers
returns-clause-numbers g c =
    let is : view c.len_as-left.new.pass ≡ gathered c.args.senders.items c.args.takers.items = search rules in
    let left = ended_left c.pop_as-ahead.result _ _ c.pop_as-ahead.ensures.rule in
    let rest : List Parcel = ahead_and c.pop_as-ahead.result (view c.pop_as-ahead.new.pass).rest in
    numbers_left c.args.senders.items c.args.takers.items c.requires.all rest (subst (λ v. IsLeft v rest) is left)

pub returns-clause-order : goal.returns-clause-order
returns-clause-order g c =
    let is : view c.len_as-left.new.pass ≡ gathered c.args.senders.items c.args.takers.items = search rules in
    let left = ended_left c.pop_as-ahead.result _ _ c.pop_as-ahead.ensures.rule in
    let rest : List Parcel = ahead_and c.pop_as-ahead.result (view c.pop_as-ahead.new.pass).rest in
    order_left c.args.senders.items c.args.takers.items c.requires.all rest (subst (λ v. IsLeft v rest) is left)

pub returns-clause-taken : goal.returns-clause-taken
returns-clause-taken g c =
    let is : view c.gather_takers.new.pass ≡ gathered c.args.senders.items c.args.takers.items = search rules in
    let seen = c.len_as-left.ensures.rule.1 in
    let count = count_left c.args.senders.items c.args.takers.items c.requires.all seen.0 (subst (λ v. IsLeft v seen.0) is seen.2) in
    let length_is = seen.1 in let sent = c.gather_senders-sent.ensures.count in
    omega arith

pub returns-clause-left : goal.returns-clause-left
returns-clause-left g c =
    let is : view c.gather_takers.new.pass ≡ gathered c.args.senders.items c.args.takers.items = search rules in
    let again : view c.len_as-left.new.pass ≡ gathered c.args.senders.items c.args.takers.items = search rules in
    let seen = c.len_as-left.ensures.rule.1 in
    let length_is = seen.1 in
    let count = count_left c.args.senders.items c.args.takers.items c.requires.all seen.0 (subst (λ v. IsLeft v seen.0) is seen.2) in
    let left = ended_left c.pop_as-ahead.result _ _ c.pop_as-ahead.ensures.rule in
    let rest : List Parcel = ahead_and c.pop_as-ahead.result (view c.pop_as-ahead.new.pass).rest in
    let count' = count_left c.args.senders.items c.args.takers.items c.requires.all rest (subst (λ v. IsLeft v rest) again left) in
    omega arith
