use Rattle.g1_replay.specs.{refl, Makes}
use Rattle.g1_trace.specs.declared.command.Command.TheVariants as command
use Rattle.g1_replay.proofs.PlayedLemmas.{said_front, said_ok, said_refused}
use Rattle.g1_replay.proofs.runs.play.play_command.Goals as goal

pub returns-in_err-reply-in-Store : goal.returns-in_err-reply-in-Store
returns-in_err-reply-in-Store g c = rw c.in-Store.is (said_refused (Makes (command.Store _ _ _) c.args.machinery.now _) _ _ _ c.from_residual.ensures.1 c.in_err-reply-in-Store.ensures)

pub returns-in_err-put_store_reply-in-Store : goal.returns-in_err-put_store_reply-in-Store
returns-in_err-put_store_reply-in-Store g c = rw c.in-Store.is (said_front (Makes (command.Store _ _ _) c.args.machinery.now _) _ _ _ _ c.from_residual-in_err-put_store_reply-in-Store.ensures.1 (_, c.in_ok-reply-in-Store.ensures, refl) c.in_err-put_store_reply-in-Store.ensures)

pub returns-in_ok-put_store_reply-in-Store : goal.returns-in_ok-put_store_reply-in-Store
returns-in_ok-put_store_reply-in-Store g c = rw c.in-Store.is (said_ok (Makes (command.Store _ _ _) c.args.machinery.now _) _ _ _ (_, c.in_ok-reply-in-Store.ensures, refl) c.in_ok-put_store_reply-in-Store.ensures)

pub returns-in_err-reply-in-Refine : goal.returns-in_err-reply-in-Refine
returns-in_err-reply-in-Refine g c = rw c.in-Refine.is (said_refused (Makes command.Refine c.args.machinery.now _) _ _ _ c.from_residual-in_err-reply-in-Refine.ensures.1 c.in_err-reply-in-Refine.ensures)

pub returns-in_err-put_refine_reply-in-Refine : goal.returns-in_err-put_refine_reply-in-Refine
returns-in_err-put_refine_reply-in-Refine g c = rw c.in-Refine.is (said_front (Makes command.Refine c.args.machinery.now _) _ _ _ _ c.from_residual-in_err-put_refine_reply-in-Refine.ensures.1 (_, c.in_ok-reply-in-Refine.ensures, refl) c.in_err-put_refine_reply-in-Refine.ensures)

pub returns-in_ok-put_refine_reply-in-Refine : goal.returns-in_ok-put_refine_reply-in-Refine
returns-in_ok-put_refine_reply-in-Refine g c = rw c.in-Refine.is (said_ok (Makes command.Refine c.args.machinery.now _) _ _ _ (_, c.in_ok-reply-in-Refine.ensures, refl) c.in_ok-put_refine_reply-in-Refine.ensures)

pub returns-in_err-reply-in-Work : goal.returns-in_err-reply-in-Work
returns-in_err-reply-in-Work g c = rw c.in-Work.is (said_refused (Makes command.Work c.args.machinery.now _) _ _ _ c.from_residual-in_err-reply-in-Work.ensures.1 c.in_err-reply-in-Work.ensures)

pub returns-in_err-put_work_reply-in-Work : goal.returns-in_err-put_work_reply-in-Work
returns-in_err-put_work_reply-in-Work g c = rw c.in-Work.is (said_front (Makes command.Work c.args.machinery.now _) _ _ _ _ c.from_residual-in_err-put_work_reply-in-Work.ensures.1 (_, c.in_ok-reply-in-Work.ensures, refl) c.in_err-put_work_reply-in-Work.ensures)

pub returns-in_ok-put_work_reply-in-Work : goal.returns-in_ok-put_work_reply-in-Work
returns-in_ok-put_work_reply-in-Work g c = rw c.in-Work.is (said_ok (Makes command.Work c.args.machinery.now _) _ _ _ (_, c.in_ok-reply-in-Work.ensures, refl) c.in_ok-put_work_reply-in-Work.ensures)

pub returns-in_err-put_flushed-in-Flush : goal.returns-in_err-put_flushed-in-Flush
returns-in_err-put_flushed-in-Flush g c = rw c.in-Flush.is (said_front (Makes (command.Flush _) c.args.machinery.now _) _ _ _ _ c.from_residual-in_err-put_flushed-in-Flush.ensures.1 (_, c.flush-reply.ensures, refl) c.in_err-put_flushed-in-Flush.ensures)

pub returns-in_ok-put_flushed-in-Flush : goal.returns-in_ok-put_flushed-in-Flush
returns-in_ok-put_flushed-in-Flush g c = rw c.in-Flush.is (said_ok (Makes (command.Flush _) c.args.machinery.now _) _ _ _ (_, c.flush-reply.ensures, refl) c.in_ok-put_flushed-in-Flush.ensures)
