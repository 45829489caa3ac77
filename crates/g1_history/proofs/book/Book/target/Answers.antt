use Rattle.g1_history.proofs.{call_kept, call_made}
use Rattle.g1_history.proofs.book.Book.target.Goals as goal

pub invariant_of-self-2 : goal.invariant_of-self-2
invariant_of-self-2 g c = call_kept _ _ _ _ _ _ _ _ _ c.self.invariant c.in_ok-make_room.ensures.room (c.target-target.ensures.step c.args.caller) c.make_room.ensures.same c.enter.ensures (λ _. cc) (cc)

pub returns : goal.returns
returns g c = call_made _ _ _ _ _ _ _ _ _ _ _ _ c.self.view_is c.in_ok-make_room.ensures.room (c.target-target.ensures.step c.args.caller) c.make_room.ensures.same c.enter.ensures (λ _. cc) (cc) c.target-target.ensures.later c.target-target.ensures.did
