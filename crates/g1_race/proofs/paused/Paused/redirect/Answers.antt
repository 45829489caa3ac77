use Rattle.g1_race.specs.{ℕ, List, sym, ◌∙◌, subst, IsStrictlyIncreasing, Moved, Redirects, is_marked, Pause}
use Rattle.g1_race.proofs.{gathered}
use Rattle.g1_race.proofs.paused.Paused.redirect.Goals as goal

pub returns-clause-ascending : goal.returns-clause-ascending
returns-clause-ascending g c =
    let old = c.args.self.now in
    subst (λ (cs : List ℕ). IsStrictlyIncreasing cs) (sym (c.of-refined.ensures ∙ c.in_ok-refined.ensures.cards)) (gathered (is_marked old.shape old.words) old.shape.cards).ascending

pub returns-clause-moved : goal.returns-clause-moved
returns-clause-moved g c =
    let slots = c.redirect_in_place-slots.result in (
      slots,
      λ i. Moved slots ((c.of-refined.ensures ∙ c.in_ok-refined.ensures.cards) i),
      subst (λ (h : Pause). Redirects h c.args.from c.args.to slots c.redirect_in_place-slots.new.self) c.dirty_cards.ensures.same c.redirect_in_place-slots.ensures,
    )
