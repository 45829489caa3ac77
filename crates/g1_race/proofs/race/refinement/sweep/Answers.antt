use Rattle.std.specs.Prelude.{◌+◌, ◌*◌, ◌<◌}
use Rattle.g1_race.specs.{ℕ, ap, subst, RaceShape}
use Rattle.g1_race.proofs.{slot_below}
use Rattle.g1_race.proofs.race.refinement.sweep.Goals as goal

pub note_slot-requires-clause-slot : goal.note_slot-requires-clause-slot
note_slot-requires-clause-slot c =
    let race = c.args.race.now in
    subst (λ (n : ℕ). c.args.card * race.shape.size + c.loop-i.i < n) (ap (λ (k : RaceShape). k.slots) race.laid) (slot_below race.shape c.args.card c.loop-i.i race.shaped c.requires.card c.loop-i-test.true)
