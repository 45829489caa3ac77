use Rattle.std.specs.Prelude.{◌≡◌}
use Rattle.g1_race.specs.{pair_count}
use Rattle.g1_race.proofs.paused.reading.Reader.count_pairs.Given as goal

abbrev pub invariant-loop-region : goal.invariant-loop-region
invariant-loop-region l = record {
  same : l.self ≡ l.fn.self;
  counted : l.count ≡ pair_count l.race.shape l.fn.self.start.words l.region;
}
