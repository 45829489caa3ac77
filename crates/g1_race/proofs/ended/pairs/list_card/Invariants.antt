use Rattle.std.specs.Prelude.{◌≡◌, ◌++◌}
use Rattle.g1_race.specs.{take, slots_items}
use Rattle.g1_race.proofs.{with_regions}
use Rattle.g1_race.proofs.ended.pairs.list_card.Given as goal

abbrev pub invariant-loop-region : goal.invariant-loop-region
invariant-loop-region l = l.pairs.items ≡ l.fn.pairs.items ++ with_regions l.shape (slots_items l.words.words) l.card (take l.region-index l.regions)
