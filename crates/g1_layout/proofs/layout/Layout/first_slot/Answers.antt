use Rattle.std.proofs.Common.{rules, ◌≡◌, ◌*◌}
use Rattle.g1_layout.proofs.ShapeLemmas.{row_ends_within}
use Rattle.g1_layout.proofs.layout.Layout.first_slot.Goals as goal

pub returns-clause-room : goal.returns-clause-room
returns-clause-room c =
    let is : c.card.inside.number * c.divisor.result ≡ c.args.card * c.args.self.now.slots = search rules in
    rw is (row_ends_within c.args.self.now c.args.card c.requires)
