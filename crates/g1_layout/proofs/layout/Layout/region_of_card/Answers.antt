use Rattle.std.proofs.Common.{ℕ, ◌<◌, sym, subst, arith}
use Rattle.g1_layout.specs.Shape.{Shape, card_count}
use Rattle.g1_layout.proofs.ReciprocalLemmas.{card_region_is_divided}
use Rattle.g1_layout.proofs.layout.Layout.region_of_card.Goals as goal

pub quotient-requires : goal.quotient-requires
quotient-requires c =
    let l : Shape = record { regions = c.self.inside.regions; cards = c.self.inside.cards; slots = c.self.inside.slots } in
    let less : c.card.inside.number < card_count l = subst (λ (n : ℕ). n < card_count l) (sym c.card.view_is) (subst (λ (s : Shape). c.args.card < card_count s) (sym c.self.view_is) c.requires) in
    (omega arith, card_region_is_divided l c.self.invariant.shape c.card.inside.number less)
