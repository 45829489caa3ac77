-- The core's own answer.
use Rattle.g1_handles.specs.{ℕ, Option, StoresTo}
use Rattle.g1_handles.proofs.{moved_to}
use Rattle.g1_handles.proofs.one_core.store.store_in.Goals as goal

pub returns : goal.returns
returns c =
    let done = c.store_unlogged-kind in
    let so = moved_to (λ (slot : ℕ) (target : Option ℕ). StoresTo c.args.core.now slot target done.result.0 done.new.self) c.in_ok-slot.ensures.store.0 c.in_ok-slot.ensures.store.1
    (record { did = done.ensures.did; step = done.ensures.step; later = done.ensures.later }) in
    (so, tt, tt)
