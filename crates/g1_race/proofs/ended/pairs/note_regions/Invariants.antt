use Rattle.std.specs.Prelude.{◌≡◌, ◌≤◌, ◌/◌}
use Rattle.g1_race.specs.{slots_items, array_vec_len, block_regions}
use Rattle.g1_race.proofs.ended.pairs.note_regions.Given as goal

abbrev pub invariant-loop-region : goal.invariant-loop-region
invariant-loop-region l = record {
  regions : l.regions.items ≡ block_regions l.shape (slots_items l.words.words) (l.card / 64) l.region;
  few : array_vec_len l.regions ≤ l.region;
}
