use Rattle.std.proofs.Common.{rules, ◌≡◌, ◌+◌, ◌*◌, arith}
use Rattle.g1_layout.proofs.ShapeLemmas.{row_ends_within}
use Rattle.g1_layout.proofs.layout.Layout.slot_at.Goals as goal

pub returns-clause-within : goal.returns-clause-within
returns-clause-within c =
    let is : c.card.inside.number * c.divisor.result + c.args.offset ≡ c.args.card * c.args.self.now.slots + c.args.offset = search rules in
    omega (arith, is, row_ends_within c.args.self.now c.args.card c.requires.card, c.requires.offset)
