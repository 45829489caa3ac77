use Rattle.std.specs.Prelude.{◌≡◌, ◌-◌, ◌+◌}
use Rattle.g1_log.specs.{refl, sym, ap, ◌∙◌, subst, sum_by, length, rules, arith, sum_by_push, All, All-push, maker, whole, new_sender, sender_made, IsSenderOf, AreNewSenders, sender_rights}
use Rattle.std.proofs.lemmas.List.{length_push}
use Rattle.g1_log.proofs.{forks_sender, is_new_sender, AreNewSenders-push}
use Rattle.g1_log.proofs.line.Line.make_senders.Goals as goal

pub another-pass-requires-clause-rule : goal.another-pass-requires-clause-rule
another-pass-requires-clause-rule c =
    let w : whole ≡ 20 = refl in let lt = c.loop-number-test.true in let m = c.requires.count in
    forks_sender _ (whole - c.loop-number.number) c.loop-number.number _ c.loop-number.invariant.maker_is (omega arith)

pub loop-number-preserved : goal.loop-number-preserved
loop-number-preserved c =
    let i = c.loop-number.invariant in
    let k = c.loop-number.number in
    let old = c.loop-number.senders.items in
    let line = c.args.self.now in
    let pass = c.another-pass.ensures.queue.1 in
    let is_new = c.another-pass.ensures.rule.1 ∙ ap new_sender (ap (λ v. v.made) i.maker_is) in
    let right = ap (λ v. v.rights) is_new in
    let items = c.in_ok-push.ensures.items in
    let e : k ≡ 0 + length old = omega (arith, i.count) in
    record {
      of = search rules;
      same = search rules;
      maker_is = c.another-pass.ensures.rule.0 ∙ ap sender_made i.maker_is ∙ (let w : whole ≡ 20 = refl in let lt = c.loop-number-test.true in let m = c.requires.count in let d : (whole - k) - 1 ≡ whole - (k + 1) = omega arith in ap (λ r. maker r (k + 1)) d);
      count = ap (λ l. length l) items ∙ length_push old _ ∙ ap (λ n. n + 1) i.count;
      made = subst (AreNewSenders line 0) (sym items) (AreNewSenders-push line 0 old k _ e i.made (is_new_sender line k _ pass is_new refl));
      all = subst (All (IsSenderOf line)) (sym items) (All-push (IsSenderOf line) old _ i.all pass.0);
      rights = ap (sum_by sender_rights) items ∙ sum_by_push sender_rights old _ ∙ ap (λ n. sum_by sender_rights old + n) right ∙ ap (λ n. n + 1) i.rights;
    }
