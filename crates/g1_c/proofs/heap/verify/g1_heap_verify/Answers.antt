-- Each clause is that of the call on the heap at its pause.
use Rattle.g1_c.specs.{arith, rules, refl}
use Rattle.g1_c.proofs.{heap_made, heap_not, is_made}
use Rattle.g1_c.proofs.heap.verify.g1_heap_verify.Goals as goal

pub returns-in-Err-clause-found : goal.returns-in-Err-clause-found
returns-in-Err-clause-found c = heap_not _ _ _ _ _ _ _ _ c.in-Err.ensures c.word.ensures.number (omega (arith, c.word.ensures.refused)) (refl, refl) (λ _ _ c. search rules) (λ _ _ c. search rules)

pub returns-in-Ok-clause-found : goal.returns-in-Ok-clause-found
returns-in-Ok-clause-found c = is_made _ _ _ _ _ (omega arith) (heap_made _ _ _ _ _ _ c.in-Ok.ensures (λ _ _ c. search rules))
