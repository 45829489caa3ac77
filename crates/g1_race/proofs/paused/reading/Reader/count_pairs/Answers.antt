-- The count is that of the regions before the one that is looked at.
use Rattle.std.specs.Prelude.{◌≡◌, ◌+◌}
use Rattle.g1_race.specs.{ℕ, List, length, ap, ◌∙◌, arith, member_cards}
use Rattle.g1_race.proofs.Counting.{counted, fits}
use Rattle.g1_race.proofs.paused.reading.Reader.count_pairs.Goals.{After-count-count}
use Rattle.g1_race.proofs.paused.reading.Reader.count_pairs.Goals as goal

more : (c : After-count-count) → c.count-count.result ≡ length (member_cards c.args.race.now.shape c.args.self.now.start.words c.loop-region.region)
more c = c.count-count.ensures.count ∙ ap (λ (ws : List ℕ). length (member_cards c.args.race.now.shape ws c.loop-region.region)) (ap (λ r. r.start.words) c.loop-region.invariant.same)

pub overflow_add-count : goal.overflow_add-count
overflow_add-count c =
    let r = c.loop-region.region in
    omega (arith, c.loop-region.invariant.counted, more ((goal.at.overflow_add-count c).After-count-count), counted c.args.race.now.shape c.args.self.now.start.words r, fits c.args.race.now.shape c.args.self.now.start.words (r + 1) c.args.race.now.shaped (omega (arith, c.loop-region-test.true)))
