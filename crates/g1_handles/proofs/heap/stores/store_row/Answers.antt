-- One word more.
use Rattle.std.specs.Prelude.{◌<◌}
use Rattle.g1_handles.specs.{arith, ℕ, sym, subst, ap, ◌∙◌, slice_index_or, StoresWordAt, slot_count}
use Rattle.g1_race_words.specs.declared.view.RaceShape.{RaceShape}
use Rattle.g1_handles.proofs.RowLemmas.{row_kept, row_next_at, row_slot, row_word}
use Rattle.g1_handles.proofs.heap.stores.store_row.Goals as goal

pub store_word-kind-requires-clause-slot : goal.store_word-kind-requires-clause-slot
store_word-kind-requires-clause-slot c = row_slot c.args.heap.now c.loop-i.heap c.args.first _ _ c.loop-i.invariant
    (subst (λ (p : ℕ). p < slot_count c.args.heap.now.layout) (sym c.in-Some.ensures.1) (omega (arith, c.requires.within, c.loop-i-test.true)))

pub store_word-kind-requires-clause-word : goal.store_word-kind-requires-clause-word
store_word-kind-requires-clause-word c =
    let kept = row_kept c.args.heap.now c.loop-i.heap c.args.first _ c.loop-i.invariant in
    row_word c.loop-i.heap.shape c.args.heap.now.layout c.args.words.now c.loop-i.i _ (ap (λ (k : RaceShape). k.slots) kept.shape ∙ c.layout-layout.ensures.slots) c.requires.fit c.loop-i-test.true

pub loop-i-preserved : goal.loop-i-preserved
loop-i-preserved c =
    let word = slice_index_or c.args.words.now c.loop-i.i 0 in
    row_next_at c.args.heap.now c.loop-i.heap c.store_word-kind.new.self c.args.first c.args.words.now c.loop-i.i 0 c.store_word-kind.result c.loop-i-test.true c.loop-i.invariant
    (subst (λ (p : ℕ). StoresWordAt c.loop-i.heap p word c.store_word-kind.result c.store_word-kind.new.self) c.in-Some.ensures.1 c.store_word-kind.ensures)
