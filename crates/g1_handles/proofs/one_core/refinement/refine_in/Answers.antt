-- A turn refines one card at most.
use Rattle.std.specs.Prelude.{◌≡◌, ◌≤◌, ◌+◌}
use Rattle.std.proofs.lemmas.Grind.{common_steps}
use Rattle.g1_handles.specs.{length, ap, arith, rules}
use Rattle.g1_core.proofs.LengthLemmas.{turned_few}
use Rattle.g1_handles.proofs.one_core.refinement.refine_in.Goals as goal

pub returns-in-Ok : goal.returns-in-Ok
returns-in-Ok c =
    let done = c.in-Ok in
    let few : length done.reply.refined + done.reply.skipped ≤ length c.in_ok-buffer.buffer = turned_few _ _ _ _ done.ensures.did.refined in
    let same : length c.in_ok-buffer.buffer ≡ length c.args.cards.now = ap length (rw c.in_ok-buffer.ensures.ok_part at c.buffer_of.ensures.cards) in
    ((omega (arith, few, same, c.if-room-cards.false), omega (arith, few, same, c.if-cards-gt256.false), first_of (search rules, grind (arith, common_steps))), tt, tt)
