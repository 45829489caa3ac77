-- No slot of the card before the one that is looked at refers into the regions.
use Rattle.std.specs.Prelude.{◌≡◌, ◌*◌, ◌+◌}
use Rattle.g1_race.specs.{sym, ap, ◌∙◌, subst, arith, EntersAny, Pause, table_at}
use Rattle.g1_race.proofs.{lent_view, first_on, none_next, none_on}
use Rattle.g1_race.proofs.paused.Paused.entering_any_on.Given.{Over}
use Rattle.g1_race.proofs.paused.Paused.entering_any_on.Goals.{After-counts-slots, After-slot_at-slot}
use Rattle.g1_race.proofs.paused.Paused.entering_any_on.Goals as goal

-- the slots of a card, and the next of them, are those of the heap's layout
slots_are : (g : Over) (c : After-counts-slots g) → c.counts-slots.result.2 ≡ c.args.self.now.layout.slots
slots_are g c = c.counts-slots.ensures.slots ∙ ap (λ (h : Pause). h.layout.slots) (lent_view c.race.ensures c.self.view_is)

slot_is : (g : Over) (c : After-slot_at-slot g) → c.slot_at-slot.result ≡ c.args.card * c.args.self.now.layout.slots + c.loop-i.i
slot_is g c = c.slot_at-slot.ensures.slot ∙ ap (λ (h : Pause). c.args.card * h.layout.slots + c.loop-i.i) (lent_view c.race.ensures c.self.view_is)

pub returns-then-enters_any-clause-first : goal.returns-then-enters_any-clause-first
returns-then-enters_any-clause-first g c =
    let at = goal.at.returns-then-enters_any-clause-first g c in
    first_on (table_at c.args.self.now) c.args.regions.now c.args.card c.loop-i.i c.loop-i.invariant.none c.slot_at-slot.result (omega (arith, c.loop-i-test.true, slots_are g (at.After-counts-slots))) (slot_is g (at.After-slot_at-slot))
    (subst (λ (h : Pause). EntersAny (table_at h) c.args.regions.now c.slot_at-slot.result) c.loop-i.invariant.same (c.enters_any.ensures.enters.0 c.if-enters_any.true))

pub loop-i-preserved : goal.loop-i-preserved
loop-i-preserved g c =
    let at = goal.at.loop-i-preserved g c in
    record {
      same = c.enters_any.ensures.same ∙ c.loop-i.invariant.same;
      none = none_next (table_at c.args.self.now) c.args.regions.now c.args.card c.loop-i.i c.loop-i.invariant.none c.slot_at-slot.result (slot_is g (at.After-slot_at-slot))
          (λ e. absurd (let t = c.enters_any.ensures.enters.1 (subst (λ (h : Pause). EntersAny (table_at h) c.args.regions.now c.slot_at-slot.result) (sym c.loop-i.invariant.same) e) in let f = c.if-enters_any.false in cc (t, f)));
    }

pub returns-clause-first : goal.returns-clause-first
returns-clause-first g c =
    let are = slots_are g ((goal.at.returns-clause-first g c).After-counts-slots) in
    none_on (table_at c.args.self.now) c.args.regions.now c.args.card c.loop-i.i c.loop-i.invariant.none (omega (arith, are, c.counts-slots.ensures.slots, c.counts-slots.ensures.shape.slots_low)) (omega (arith, are, c.loop-i-test.false))
