-- Each clause is that of the call on the heap at its pause.
use Rattle.g1_c.specs.{rules}
use Rattle.g1_c.proofs.{heap_does}
use Rattle.g1_c.proofs.heap.stores.g1_heap_store_words.Goals as goal

pub returns : goal.returns
returns c = heap_does _ _ _ _ _ _ c.at_pause.ensures c.answer_word.ensures (λ _ _ c. search rules) (λ _ _ _ c. search rules) (λ _ _ _ c. search rules)
