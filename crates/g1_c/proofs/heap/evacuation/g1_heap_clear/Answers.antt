-- The reply is that of the call on the heap at its pause.
use Rattle.g1_c.specs.{arith, rules, ClearsAt}
use Rattle.g1_c.proofs.{heap_calls, heap_clears}
use Rattle.g1_c.proofs.heap.evacuation.g1_heap_clear.Goals as goal

pub returns-in-Ok : goal.returns-in-Ok
returns-in-Ok c = record {
  cleared = record {
    cleared = λ is. heap_clears _ _ (λ old reply new. ClearsAt old c.args.region reply new) _ _ _ _ 0 c.in-Ok.ensures is (λ _ _ call. search rules);
    pending = λ is. heap_clears _ _ (λ old reply new. ClearsAt old c.args.region reply new) _ _ _ _ 19 c.in-Ok.ensures is (λ _ _ call. search rules);
    referenced = λ is. heap_clears _ _ (λ old reply new. ClearsAt old c.args.region reply new) _ _ _ _ 20 c.in-Ok.ensures is (λ _ _ call. search rules);
    none = grind (arith, heap_calls);
    why = grind (arith, heap_calls);
  };
  same = grind (arith, heap_calls);
}
