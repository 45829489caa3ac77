use Rattle.std.specs.Prelude.{◌≡◌, ◌≤◌, ◌<◌, ◌-◌}
use Rattle.g1_race.specs.{ℕ, false, is_marked}
use Rattle.g1_race.proofs.paused.reading.Reader.next_marked.Given as goal

abbrev pub invariant-loop-card : goal.invariant-loop-card
invariant-loop-card l = record {
  same : l.self ≡ l.fn.self;
  past : l.from ≤ l.next;
  none : (c : ℕ) → l.from ≤ c → c < l.next → c < l.race.shape.cards → is_marked l.race.shape l.fn.self.start.words c ≡ false;
}

abbrev pub decreases-loop-card : goal.decreases-loop-card
decreases-loop-card l = l.race.shape.cards - l.next
