use Rattle.std.specs.Prelude.{◌≡◌, ◌≤◌, ◌-◌}
use Rattle.g1_race.specs.{vec_capacity, cards_where, is_sought}
use Rattle.g1_race.proofs.paused.reading.Reader.list.Given as goal

abbrev pub invariant-loop-card : goal.invariant-loop-card
invariant-loop-card l = record {
  same : l.self ≡ l.fn.self;
  within : l.from ≤ l.race.shape.cards;
  listed : l.cards.items ≡ cards_where (is_sought l.sought l.race.shape l.fn.self.start.words) l.from;
  room : vec_capacity l.cards ≡ vec_capacity l.fn.cards;
}

abbrev pub decreases-loop-card : goal.decreases-loop-card
decreases-loop-card l = l.race.shape.cards - l.from
