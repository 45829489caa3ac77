use Rattle.std.specs.Prelude.{◌≡◌}
use Rattle.g1_race.specs.{ℕ, List, ap, ◌∙◌, status_step, pair_count, Pause, table_at}
use Rattle.std.specs.FinSet as set
use Rattle.g1_race.proofs.{pending_len, lent_begun, lent_view}
use Rattle.g1_race.proofs.Counting.{count_is}
use Rattle.g1_race.proofs.paused.Paused.status.Goals as goal

-- the pairs are those of the words as they were
counted_is : (g : _) (c : goal.After-count_pairs-recorded g) → c.count_pairs-recorded.result ≡ pair_count c.race-race.result.now.shape c.self.inside.reader.start.words c.race-race.result.now.shape.regions
counted_is g c = c.count_pairs-recorded.ensures.count ∙ ap (λ (ws : List ℕ). pair_count c.race-race.result.now.shape ws c.race-race.result.now.shape.regions) (ap (λ r. r.start.words) c.count-pending.ensures.same)

pub returns-clause-told : goal.returns-clause-told
returns-clause-told g c =
    let race = c.race-race.result.now in
    let words = c.self.inside.reader.start.words in
    let begun = lent_begun c.race-race.ensures c.self.invariant.1 in
    let view = lent_view c.race-race.ensures c.self.view_is in
    let pending = c.count-pending.ensures.count ∙ (pending_len race.shape race.layout race.laid words begun ∙ ap (λ (h : Pause). set.len (table_at h).pending) view) in
    let recorded = counted_is g c ∙ (count_is race.shape race.layout race.laid words begun ∙ ap (λ (h : Pause). set.len (table_at h).recorded) view) in
    record {
      pending = pending;
      recorded = recorded;
      step = λ caller. status_step caller (table_at c.args.self.now) _ pending recorded;
    }
