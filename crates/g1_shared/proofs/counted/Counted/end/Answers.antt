use Rattle.std.specs.Prelude.{◌≡◌}
use Rattle.g1_shared.specs.{[], rules, refl, sym, subst, ◌∙◌, arith, All, HasOwn, Recorded}
use Rattle.std.proofs.lemmas.List.Elements.{All-nil}
use Rattle.g1_shared.proofs.ToldLemmas.{has_more, has_on, sums_last}
use Rattle.g1_shared.proofs.counted.Counted.end.Goals as goal

pub loop-caller-init : goal.loop-caller-init
loop-caller-init g c =
    let sums = sums_last _ _ c.take_last-last.result c.take_last-last.ensures.items in
    let shares = c.into_shares-made.ensures in (
      search rules,
      search rules,
      omega (arith, sums.0, shares.made.1),
      omega (arith, sums.1, shares.stored.1),
      refl,
      has_more _ _ c.take_last-last.result _ _ _ _ c.take_last-last.ensures.items shares.own c.check.ensures.exact c.check.ensures.same.0,
    )

pub loop-caller-preserved : goal.loop-caller-preserved
loop-caller-preserved g c =
    let was = c.loop-caller.invariant in
    let sums = sums_last _ _ c.in-Some.caller c.in-Some.ensures.items in
    let shares = c.into_shares-its_made.ensures in
    let same = c.check-in-Some.ensures.same.0 in (
      search rules,
      search rules,
      omega (arith, was.2, sums.0, shares.made.1, c.merge.ensures.amount),
      omega (arith, was.3, sums.1, shares.stored.1, c.merge-in-Some.ensures.amount),
      same ∙ was.4,
      λ rest. has_on _ _ _ _ same was.5 (has_more _ _ c.in-Some.caller _ _ _ _ c.in-Some.ensures.items shares.own c.check-in-Some.ensures.exact same rest),
    )

pub returns-clause-told : goal.returns-clause-told
returns-clause-told g c =
    let was = c.loop-caller.invariant in
    let none : c.loop-caller.callers.items ≡ [] = search rules in
    let same : c.loop-caller.records ≡ c.self.inside.records = was.4 ∙ c.check.ensures.same.0 in
    let entries = c.self.inside.records.entries in
    record {
      entries = entries;
      run = c.self.invariant.led;
      made = record {
        each = subst (λ (r : Recorded). All (HasOwn r.entries) c.args.callers.items) same (was.5 (subst (All (HasOwn c.loop-caller.records.entries)) (sym none) (All-nil (HasOwn c.loop-caller.records.entries))));
        all = sym c.self.invariant.calls ∙ search rules;
        stores = sym c.self.invariant.stores ∙ search rules;
      };
    }
