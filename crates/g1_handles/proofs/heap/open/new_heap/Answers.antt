-- The parties of a new heap are those that have just been made to wait.
use Rattle.g1_handles.specs.{Some, sym, subst, RacingHeap, HasNewParties}
use Rattle.g1_handles.proofs.heap.open.new_heap.Goals as goal

pub returns-clause-parties : goal.returns-clause-parties
returns-clause-parties c =
    subst (λ (h : RacingHeap). HasNewParties (Some h)) (sym c.in_ok-new.ensures.ok)
    (c.in_ok-racers.ensures.counts, c.in_ok-sweepers.ensures.counts, c.in_ok-readers.ensures.counts)
