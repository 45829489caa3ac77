use Rattle.std.proofs.Common.{◌∙◌, ap, sym, subst, ◌*◌, ◌/◌, ◌<◌, ℕ}
use Rattle.g1_layout.proofs.ReciprocalLemmas.{quotient_is}
use Rattle.g1_layout.proofs.reciprocal.Reciprocal.quotient.Goals as goal

pub returns : goal.returns
returns g c =
    ap (λ (n : ℕ). n * c.self.inside.multiplier / g.row.SCALE) c.from.ensures
    ∙ quotient_is g.row.SCALE c.args.number c.self.inside.divisor c.self.inside.multiplier (subst (λ (d : ℕ). c.args.number * d < g.row.SCALE) (sym c.self.view_is) c.requires.exact) c.self.invariant
    ∙ ap (λ (d : ℕ). c.args.number / d) c.self.view_is
