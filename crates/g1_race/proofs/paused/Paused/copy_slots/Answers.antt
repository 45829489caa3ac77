use Rattle.std.specs.Prelude.{◌≡◌, ◌+◌, ◌-◌, ◌≤◌}
use Rattle.g1_race.specs.{ℕ, Bool, true, false, leb, length, sym, ap, ◌∙◌, subst, arith, leb-false, leb-true, slot_count, RaceShape, Pause, copied_all, copied_on, first_of}
use Rattle.g1_race.proofs.{Copied, CopiesOne, copied_down, copied_up, lent_begun, lent_view}
use Rattle.g1_race.proofs.paused.Paused.copy_slots.Goals.{else-upwards, then-upwards}
use Rattle.g1_race.proofs.paused.Paused.copy_slots.Goals as goal

pub loop-i-preserved : goal.loop-i-preserved
loop-i-preserved g c =
    let race = c.race.result.now in
    let old : Pause = c.args.self.now in
    let view = lent_view c.race.ensures c.self.view_is in
    let begun = lent_begun c.race.ensures c.self.invariant.1 in
    let slots : old.shape.slots ≡ slot_count old.layout = ap (λ (h : Pause). h.shape.slots) (sym view) ∙ (ap (λ (k : RaceShape). k.slots) race.laid ∙ ap (λ (h : Pause). slot_count h.layout) view) in
    let full : old.shape.slots ≤ length old.words = subst (λ (h : Pause). h.shape.slots ≤ length h.words) view (omega (arith, begun.sized)) in
    let upwards : Bool = leb c.number.result c.number-2.result in
    let next : ℕ = c.if-upwards.distance in
    let one : CopiesOne c.loop-i.self c.copy_slot.new.self (c.args.from + next) (c.args.to + next) =
    subst (λ (x : ℕ × ℕ). CopiesOne c.loop-i.self c.copy_slot.new.self x.0 x.1) (λ i. (c.slot_behind.ensures i, c.slot_behind-in-loop-i.ensures i))
    (record { race = c.copy_slot.ensures.race; words = c.copy_slot.ensures.words; table = c.copy_slot.ensures.table; flags = c.copy_slot.ensures.flags }) in
    let on : (upwards ≡ true → next ≡ c.loop-i.i) → (upwards ≡ false → next ≡ c.args.count - 1 - c.loop-i.i) → Copied old c.copy_slot.new.self (c.args.from + first_of upwards c.args.count (c.loop-i.i + 1)) (c.args.to + first_of upwards c.args.count (c.loop-i.i + 1)) (c.loop-i.i + 1) =
    λ here there. copied_on (Copied old c.loop-i.self) (Copied old c.copy_slot.new.self) (CopiesOne c.loop-i.self c.copy_slot.new.self) old.shape.slots (copied_up old c.loop-i.self c.copy_slot.new.self full) (copied_down old c.loop-i.self c.copy_slot.new.self full) upwards c.args.from c.args.to c.args.count c.loop-i.i next
    (λ e. omega (arith, leb-true c.number.result c.number-2.result e, c.number.ensures, c.number-2.ensures)) (λ e. omega (arith, leb-false c.number.result c.number-2.result e, c.number.ensures, c.number-2.ensures))
    c.loop-i-test.true (omega (arith, c.requires.from, slots)) c.loop-i.invariant here there one in
    elim c.if-upwards.branch [
      | then-upwards w ↦ on (λ e. w.distance-is) (λ e. absurd (omega (arith, leb-false c.number.result c.number-2.result e, w.if-upwards.true)))
      | else-upwards w ↦ on (λ e. absurd (omega (arith, leb-true c.number.result c.number-2.result e, w.if-upwards.false))) (λ e. w.distance-is)
    ]

pub returns : goal.returns
returns g c =
    let all = copied_all (Copied c.args.self.now c.loop-i.self) (leb c.number.result c.number-2.result) c.args.from c.args.to c.args.count c.loop-i.i (omega (arith, c.loop-i-test.false)) c.loop-i.invariant in
    record { race = all.race; words = all.words; table = all.table; flags = all.flags }
