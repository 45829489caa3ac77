use Rattle.std.specs.Prelude.{◌≡◌, ◌≢◌, ◌/◌, ◌%◌}
use Rattle.g1_race.specs.{slots_items, pairs_up_to, block_regions}
use Rattle.g1_race.proofs.ended.pairs.list_pairs.Given as goal

abbrev pub invariant-loop-card : goal.invariant-loop-card
invariant-loop-card l = record {
  pairs : l.pairs.items ≡ pairs_up_to l.shape (slots_items l.words.words) l.card;
  regions : l.card % 64 ≢ 0 → l.regions.items ≡ block_regions l.shape (slots_items l.words.words) (l.card / 64) l.shape.regions;
}
