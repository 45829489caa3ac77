-- The word stands for what the heap answers.
use Rattle.g1_handles.specs.{sym, table_at, TellsTarget}
use Rattle.g1_handles.proofs.{moved_to}
use Rattle.g1_handles.proofs.heap.queries.target_at.Goals as goal

pub returns : goal.returns
returns c =
    let at = rw c.in_ok-slot.ensures.ok_part at c.slot.ensures in
    (moved_to (TellsTarget (table_at c.args.heap.now)) at.1 (sym c.reference_word.ensures) c.target.ensures.told, tt, c.target.ensures.same)
