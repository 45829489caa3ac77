-- The words stand for the heap's reply.
use Rattle.g1_handles.specs.{sym, subst, ClearReply, FreesAt}
use Rattle.g1_handles.proofs.Kept.{kept_free}
use Rattle.g1_handles.proofs.heap.evacuation.free_at.Goals as goal

pub returns-clause-freed : goal.returns-clause-freed
returns-clause-freed c =
    ((c.words_of.ensures.words, subst (λ (reply : ClearReply). FreesAt c.args.heap.now c.args.regions.now reply c.free.new.self) (sym c.words_of.ensures.reply) c.free.ensures), tt, tt)

pub returns-clause-kept : goal.returns-clause-kept
returns-clause-kept c = kept_free c.args.heap.now c.args.regions.now c.free.result c.free.new.self c.free.ensures
