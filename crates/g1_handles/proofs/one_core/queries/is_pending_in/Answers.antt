-- The core's own answer.
use Rattle.g1_handles.specs.{ℕ, subst, TellsPending}
use Rattle.g1_handles.proofs.one_core.queries.is_pending_in.Goals as goal

pub returns-clause-pending : goal.returns-clause-pending
returns-clause-pending c =
    let at = rw c.in_ok-card.ensures.ok_part at c.card.ensures in
    subst (λ (card : ℕ). TellsPending c.args.core.now.state.table card c.is_pending.result) at.1 c.is_pending.ensures.did.told
