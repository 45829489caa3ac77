-- The heap's own answer.
use Rattle.g1_handles.specs.{ℕ, subst, table_at, TellsPending}
use Rattle.g1_handles.proofs.heap.queries.is_pending_at.Goals as goal

pub returns : goal.returns
returns c =
    let at = rw c.in_ok-card.ensures.ok_part at c.card.ensures in
    (subst (λ (card : ℕ). TellsPending (table_at c.args.heap.now) card c.is_pending.result) at.1 c.is_pending.ensures.told, tt, c.is_pending.ensures.same)
