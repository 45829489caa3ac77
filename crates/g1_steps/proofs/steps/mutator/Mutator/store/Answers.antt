use Rattle.std.specs.Prelude.{◌≡◌, ◌∷◌, ◌++◌}
use Rattle.g1_steps.specs.{rules, [], ℕ, List, Option, subst, ◌∙◌, IfSome, IsSome, card_of, Logged, Mutator, Stored, IsPassed, IsStored, help_calls, filled}
use Rattle.g1_steps.proofs.{handed_some, store_passed}
use Rattle.g1_steps.proofs.steps.mutator.Mutator.store.Goals as goal

pub returns : goal.returns
returns g c =
    let first = c.in_ok-first.first in
    let some : IsSome c.store.new.completed = search rules in
    let out = handed_some _ _ _ _ c.in_ok-first.ensures.lent.handed some in
    let h = subst (λ (o : Option (List ℕ)). IfSome o (λ cards. IsPassed g.C.Calls.did c.store.new.self cards c.pass_from-passed.result c.pass_from-passed.new.calls)) out.1 c.pass_from-passed.ensures.passed in
    let kind : first.kind ≡ Logged = out.0 in
    let did = g.met.C.Calls.then _ _ _ (Stored c.args.slot c.args.target first ∷ []) _ c.in_ok-first.ensures.made h.made in
    let full : first ≡ filled = search rules in
    let stored : IsStored g.C.Calls.did c.args.calls.now c.args.slot c.args.target _ _ _ = record {
      first = first;
      help = h.help;
      made = subst (λ (m : Mutator). g.C.Calls.did c.args.calls.now (Stored c.args.slot c.args.target first ∷ help_calls (m.log.cards ++ card_of (g.C.Calls.layout c.args.calls.now) c.args.slot ∷ []) h.help) c.pass_from-passed.new.calls) c.self.view_is did;
      answer = (λ i. record { kind = first.kind; fill = (h.answer i).fill; refined = (h.answer i).refined; short = (h.answer i).short }) ∙ store_passed first h.help full;
      plain = c.in_ok-first.ensures.plain;
      own = search rules;
      full = λ _. full;
      helps = search rules;
    } in
    search rules
