use Rattle.std.specs.Prelude.{◌≡◌, ◌<◌, ◌≤◌, ◌-◌}
use Rattle.g1_race.specs.{ℕ, card_count, card_of, EntersAny, table_at}
use Rattle.g1_race.proofs.paused.Paused.entering_any.Given as goal

abbrev pub invariant-loop-card : goal.invariant-loop-card
invariant-loop-card g l = record {
  same : l.self ≡ l.fn.self;
  within : l.from ≤ card_count l.fn.self.layout;
  none : (slot : ℕ) → card_of l.fn.self.layout slot < l.from → EntersAny (table_at l.fn.self) l.regions slot → ⊥;
}

abbrev pub decreases-loop-card : goal.decreases-loop-card
decreases-loop-card g l = card_count l.fn.self.layout - l.from
