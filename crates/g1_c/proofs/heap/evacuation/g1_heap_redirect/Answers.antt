-- Each clause is that of the call on the heap at its pause.
use Rattle.g1_c.specs.{rules, Redirects}
use Rattle.g1_c.proofs.{heap_tells}
use Rattle.g1_c.proofs.heap.evacuation.g1_heap_redirect.Goals as goal

pub returns : goal.returns
returns c = heap_tells _ _ (λ moved old new. Redirects old c.args.from c.args.to moved new) _ _ _ _ _ c.at_pause.ensures c.tell.ensures (λ _ _ _ c. search rules) (λ _ _ _ c. search rules) (λ _ _ _ c. search rules)
