-- The words stand for the core's reply.
use Rattle.g1_handles.specs.{ℕ, sym, ClearReply, ClearsTo}
use Rattle.g1_handles.proofs.{moved_to}
use Rattle.g1_handles.proofs.one_core.evacuation.clear_in.Goals as goal

pub returns : goal.returns
returns c =
    let at = rw c.in_ok-region.ensures.ok_part at c.region.ensures in
    let so = moved_to (λ (region : ℕ) (reply : ClearReply). ClearsTo c.args.core.now region reply c.clear.new.self) at.1 (sym c.words_of.ensures.reply)
    (record { did = c.clear.ensures.did; step = c.clear.ensures.step; later = c.clear.ensures.later }) in
    ((c.words_of.ensures.words, so), tt, tt)
