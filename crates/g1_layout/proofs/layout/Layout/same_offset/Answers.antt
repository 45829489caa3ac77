use Rattle.std.proofs.Common.{◌≡◌, ◌+◌, ◌-◌, ◌*◌, subst, arith, ℕ, ◌<◌, sym}
use Rattle.std.proofs.lemmas.Grind.{common_steps}
use Rattle.g1_layout.specs.Shape.{IsShape, same_offset, Shape, slot_count}
use Rattle.g1_layout.proofs.ShapeLemmas.{same_offset_below, region_has_slots}
use Rattle.g1_layout.specs.Reciprocal.{IsDivided}
use Rattle.g1_layout.proofs.ReciprocalLemmas.{region_is_divided}
use Rattle.g1_layout.proofs.layout.Layout.same_offset.Goals as goal

pub returns-clause-within : goal.returns-clause-within
returns-clause-within c =
    let is : c.to.inside.number * c.divisor-size.result + (c.place.inside.number - c.quotient.result * c.divisor-size.result) ≡ same_offset c.args.self.now c.args.place c.args.to = grind (arith, common_steps) in
    rw is (same_offset_below c.args.self.now c.args.place c.args.to (region_has_slots c.args.self.now (subst IsShape c.self.view_is c.self.invariant.shape)) c.requires.to)

pub quotient-requires : goal.quotient-requires
quotient-requires c =
    let l : Shape = record { regions = c.self.inside.regions; cards = c.self.inside.cards; slots = c.self.inside.slots } in
    let less : c.place.inside.number < slot_count l = subst (λ (n : ℕ). n < slot_count l) (sym c.place.view_is) (subst (λ (s : Shape). c.args.place < slot_count s) (sym c.self.view_is) c.requires.place) in
    (omega arith, subst (λ (d : ℕ). IsDivided 4503599627370496 d c.place.inside.number) (sym c.self.invariant.region_slots) (region_is_divided l c.self.invariant.shape c.place.inside.number less))
