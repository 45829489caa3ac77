use Rattle.std.specs.Prelude.{◌≡◌, ◌≤◌, ◌-◌, ◌<◌}
use Rattle.g1_race.specs.{ℕ, slot_card, Into}
use Rattle.g1_race.proofs.paused.reading.Reader.entering.Given as goal

abbrev pub invariant-loop-card : goal.invariant-loop-card
invariant-loop-card l = record {
  same : l.self ≡ l.fn.self;
  within : l.from ≤ l.race.shape.cards;
  none : (p : ℕ) → slot_card l.race.shape p < l.from → Into l.race.shape l.fn.self.start.words l.region p → ⊥;
}

abbrev pub decreases-loop-card : goal.decreases-loop-card
decreases-loop-card l = l.race.shape.cards - l.from
