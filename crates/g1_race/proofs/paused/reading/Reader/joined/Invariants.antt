use Rattle.std.specs.Prelude.{◌≡◌, ◌/◌}
use Rattle.g1_race.specs.{take, joined_word}
use Rattle.g1_race.proofs.paused.reading.Reader.joined.Given as goal

abbrev pub invariant-loop-i : goal.invariant-loop-i
invariant-loop-i l = record {
  same : l.self ≡ l.fn.self;
  bits : l.bits ≡ joined_word l.race.shape l.fn.self.start.words (l.card / 64) (take l.i l.regions);
}
