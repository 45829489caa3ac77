use Rattle.std.specs.Prelude.{◌≡◌, ◌+◌, ◌-◌}
use Rattle.g1_core.specs.{◌∙◌, ℕ, Bool, true, false, leb, ap, subst, arith, leb-false, leb-true, slot_count, reads_after, target_of, stored, copied}
use Rattle.g1_core.specs.Table.{Table}
use Rattle.g1_core.proofs.CopyLemmas.{copied_on, first_of, later_then, table_down, table_up}
use Rattle.g1_core.proofs.machinery.Core.copy_slots.Goals.{else-upwards, then-upwards}
use Rattle.g1_core.proofs.machinery.Core.copy_slots.Goals as goal

pub loop-i-preserved : goal.loop-i-preserved
loop-i-preserved c =
    let was = c.loop-i.invariant in
    let old : Table = c.args.self.now.state.table in
    let mid : Table = c.loop-i.self.state.table in
    let new : Table = c.copy_slot.new.self.state.table in
    let upwards : Bool = leb c.number.result c.number-2.result in
    let next : ℕ = c.if-upwards.distance in
    let One : ℕ → ℕ → Type 0 = λ from to. new ≡ stored mid to (target_of mid from) in
    let Copied : Table → ℕ → ℕ → ℕ → Type 0 = λ t from to count. t ≡ copied from to count old in
    let one : One (c.args.from + next) (c.args.to + next) = subst (λ (x : ℕ × ℕ). One x.0 x.1) (λ i. (c.slot_behind.ensures i, c.slot_behind-in-loop-i.ensures i)) c.copy_slot.ensures.table in
    let on : (upwards ≡ true → next ≡ c.loop-i.i) → (upwards ≡ false → next ≡ c.args.count - 1 - c.loop-i.i) → Copied new (c.args.from + first_of upwards c.args.count (c.loop-i.i + 1)) (c.args.to + first_of upwards c.args.count (c.loop-i.i + 1)) (c.loop-i.i + 1) =
    λ here there. copied_on (Copied mid) (Copied new) One (slot_count old.layout) (λ from to count le lt so one. table_up old mid new from to count le so one) (λ from to count less lt so one. table_down old mid new from to count less so one)
    upwards c.args.from c.args.to c.args.count c.loop-i.i next
    (λ e. omega (arith, leb-true c.number.result c.number-2.result e, c.number.ensures, c.number-2.ensures)) (λ e. omega (arith, leb-false c.number.result c.number-2.result e, c.number.ensures, c.number-2.ensures))
    c.loop-i-test.true c.requires.from was.table here there one in
    record {
      table = elim c.if-upwards.branch [
        | then-upwards w ↦ on (λ e. w.distance-is) (λ e. absurd (omega (arith, leb-false c.number.result c.number-2.result e, w.if-upwards.true)))
        | else-upwards w ↦ on (λ e. absurd (omega (arith, leb-true c.number.result c.number-2.result e, w.if-upwards.false))) (λ e. w.distance-is)
      ];
      ring = c.copy_slot.ensures.ring ∙ was.ring;
      reads = c.copy_slot.ensures.reads ∙ (ap (λ (n : ℕ). reads_after n 1) was.reads ∙ (let e : reads_after (reads_after c.args.self.now.reads c.loop-i.i) 1 ≡ reads_after c.args.self.now.reads (c.loop-i.i + 1) = omega arith in e));
      later = later_then c.args.self.now c.loop-i.self c.copy_slot.new.self was.later c.copy_slot.ensures.later;
    }
