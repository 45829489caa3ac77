use Rattle.std.specs.Prelude.{◌≡◌, ◌≤◌, ◌<◌, ◌-◌}
use Rattle.g1_race.specs.{ℕ, false, is_of_any}
use Rattle.g1_race.proofs.paused.reading.Reader.next_in_rows.Given as goal

abbrev pub invariant-loop-card : goal.invariant-loop-card
invariant-loop-card l = record {
  same : l.self ≡ l.fn.self;
  past : l.from ≤ l.card;
  none : (c : ℕ) → l.from ≤ c → c < l.card → is_of_any l.race.shape l.fn.self.start.words l.regions c ≡ false;
}

abbrev pub decreases-loop-card : goal.decreases-loop-card
decreases-loop-card l = l.cards - l.card
