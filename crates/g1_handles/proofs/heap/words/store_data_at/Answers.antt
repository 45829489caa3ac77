-- The heap's own answer.
use Rattle.g1_handles.specs.{ℕ, subst, StoresDataAt}
use Rattle.g1_handles.proofs.heap.words.store_data_at.Goals as goal

pub returns-clause-stored : goal.returns-clause-stored
returns-clause-stored c =
    (subst (λ (slot : ℕ). StoresDataAt c.args.heap.now slot c.args.word c.store_data.new.self) c.in_ok-slot.ensures.slot c.store_data.ensures, tt, tt)
