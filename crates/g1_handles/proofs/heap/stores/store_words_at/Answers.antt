-- All but the words stays.
use Rattle.g1_handles.specs.{ℕ, List, sym, subst, IsRaceWith}
use Rattle.g1_handles.proofs.RowLemmas.{row_kept}
use Rattle.g1_handles.proofs.heap.stores.store_words_at.Goals as goal

pub returns-clause-kept : goal.returns-clause-kept
returns-clause-kept c =
    let kept = row_kept c.args.heap.now c.store_row.new.heap c.args.slot c.args.words.now c.store_row.ensures in
    subst (λ (logs : List (List ℕ)). IsRaceWith logs c.args.heap.now c.store_row.new.heap) (sym kept.logs) kept
