use Rattle.g1_history.proofs.{call_kept, call_made}
use Rattle.g1_history.proofs.book.Book.store_into.Goals as goal

pub invariant_of-self-2 : goal.invariant_of-self-2
invariant_of-self-2 g c = call_kept _ _ _ _ _ _ _ _ _ c.self.invariant c.in_ok-make_room.ensures.room (c.store_into-reply.ensures.step c.args.caller) c.make_room.ensures.same c.enter.ensures (λ _. cc) (cc)

pub returns-clause-call : goal.returns-clause-call
returns-clause-call g c = call_made _ _ _ _ _ _ _ _ _ _ _ _ c.self.view_is c.in_ok-make_room.ensures.room (c.store_into-reply.ensures.step c.args.caller) c.make_room.ensures.same c.enter.ensures (λ _. cc) (cc) c.store_into-reply.ensures.later c.store_into-reply.ensures.did
