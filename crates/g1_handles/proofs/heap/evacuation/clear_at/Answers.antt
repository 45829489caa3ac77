-- The words stand for the heap's reply.
use Rattle.g1_handles.specs.{sym, ClearsAt}
use Rattle.g1_handles.proofs.{moved_to}
use Rattle.g1_handles.proofs.heap.evacuation.clear_at.Goals as goal

pub returns-clause-cleared : goal.returns-clause-cleared
returns-clause-cleared c =
    let at = rw c.in_ok-region.ensures.ok_part at c.region.ensures in
    ((c.words_of.ensures.words, moved_to (λ region reply. ClearsAt c.args.heap.now region reply c.clear.new.self) at.1 (sym c.words_of.ensures.reply) c.clear.ensures), tt, tt)
