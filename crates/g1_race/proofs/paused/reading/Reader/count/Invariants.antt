use Rattle.std.specs.Prelude.{◌≡◌, ◌≤◌, ◌-◌}
use Rattle.g1_race.specs.{length, cards_where, is_sought}
use Rattle.g1_race.proofs.paused.reading.Reader.count.Given as goal

abbrev pub invariant-loop-card : goal.invariant-loop-card
invariant-loop-card l = record {
  same : l.self ≡ l.fn.self;
  within : l.from ≤ l.race.shape.cards;
  counted : l.count ≡ length (cards_where (is_sought l.sought l.race.shape l.fn.self.start.words) l.from);
}

abbrev pub decreases-loop-card : goal.decreases-loop-card
decreases-loop-card l = l.race.shape.cards - l.from
