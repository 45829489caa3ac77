use Rattle.std.proofs.Common.{rules, ◌≡◌, subst, ℕ, ◌<◌, sym, arith}
use Rattle.g1_layout.specs.Shape.{IsShape, card_of, Shape, slot_count}
use Rattle.g1_layout.proofs.ShapeLemmas.{card_of_below}
use Rattle.g1_layout.proofs.ReciprocalLemmas.{card_is_divided}
use Rattle.g1_layout.proofs.layout.Layout.card_of.Goals as goal

pub returns-clause-within : goal.returns-clause-within
returns-clause-within c =
    let is : c.quotient.result ≡ card_of c.args.self.now c.args.slot = search rules in
    rw is (card_of_below c.args.self.now c.args.slot (subst IsShape c.self.view_is c.self.invariant.shape) c.requires)

pub quotient-requires : goal.quotient-requires
quotient-requires c =
    let l : Shape = record { regions = c.self.inside.regions; cards = c.self.inside.cards; slots = c.self.inside.slots } in
    let less : c.slot.inside.number < slot_count l = subst (λ (n : ℕ). n < slot_count l) (sym c.slot.view_is) (subst (λ (s : Shape). c.args.slot < slot_count s) (sym c.self.view_is) c.requires) in
    (omega arith, card_is_divided l c.self.invariant.shape c.slot.inside.number less)
