-- The heap's own answer.
use Rattle.g1_handles.specs.{StoresAt}
use Rattle.g1_handles.proofs.{moved_to}
use Rattle.g1_handles.proofs.heap.stores.store_at.Goals as goal

pub returns-clause-stored : goal.returns-clause-stored
returns-clause-stored c =
    (moved_to (λ slot target. StoresAt c.args.heap.now slot target c.store.result c.store.new.self) c.in_ok-slot.ensures.store.0 c.in_ok-slot.ensures.store.1 c.store.ensures, tt, tt)
