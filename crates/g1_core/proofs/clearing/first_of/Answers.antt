use Rattle.std.specs.Prelude.{◌≡◌, ◌≤◌, ◌+◌, ◌∷◌, ◌++◌}
use Rattle.g1_core.specs.{◌∙◌, inl, inr, ℕ, List, [], length, Some, refl, sym, subst, arith, take, All, Contains, slice_get, cases_lt, All-push, Contains-append_left, Contains-append_right, slice_get_read}
use Rattle.g1_core.proofs.{itself, take_next}
use Rattle.g1_core.proofs.clearing.first_of.Goals as goal

pub loop-card-preserved : goal.loop-card-preserved
loop-card-preserved c =
    let before : List ℕ = take c.loop-card.card-index c.args.cards.now in
    let at : slice_get c.args.cards.now c.loop-card.card-index ≡ Some c.card-item.result =
    slice_get_read c.args.cards.now (length c.args.cards.now) c.loop-card.card-index c.card-item.result refl c.loop-card-test.true c.card-item.is in
    let next : take (c.loop-card.card-index + 1) c.args.cards.now ≡ before ++ c.card-item.result ∷ [] = take_next c.args.cards.now c.loop-card.card-index c.card-item.result at in
    let lower : c.min-least.result ≤ c.loop-card.least = omega (arith, c.min-least.ensures) in
    let here : c.min-least.result ≤ c.card-item.result = omega (arith, c.min-least.ensures, c.number.ensures) in
    record {
      least = subst (λ (cards : List ℕ). All (λ card. c.min-least.result ≤ card) cards) (sym next)
          (All-push (λ card. c.min-least.result ≤ card) before c.card-item.result (λ k d lt. omega (arith, lower, c.loop-card.invariant.least k d lt)) here);
      among = elim (cases_lt c.card-item.result c.loop-card.least) [
        | inl less ↦
            let is : c.min-least.result ≡ c.card-item.result = omega (arith, c.min-least.ensures, c.number.ensures) in
            inr (subst (λ (cards : List ℕ). Contains cards c.min-least.result) (sym next) (Contains-append_right before (c.card-item.result ∷ []) c.min-least.result (itself c.min-least.result c.card-item.result is)))
        | inr not ↦
            let is : c.min-least.result ≡ c.loop-card.least = omega (arith, c.min-least.ensures, c.number.ensures) in
            elim c.loop-card.invariant.among [
              | inl all ↦ inl (is ∙ all)
              | inr there ↦ inr (subst (λ (cards : List ℕ). Contains cards c.min-least.result) (sym next)
                  (Contains-append_left before (c.card-item.result ∷ []) c.min-least.result (subst (λ (n : ℕ). Contains before n) (sym is) there)))
            ]
      ];
    }
