use Rattle.g1_history.proofs.{call_kept, call_made, same_later}
use Rattle.g1_history.proofs.book.Book.status.Goals as goal

pub invariant_of-self-2 : goal.invariant_of-self-2
invariant_of-self-2 g c = call_kept _ _ _ _ _ _ _ _ _ c.self.invariant c.in_ok-make_room.ensures.room (c.status-status.ensures.did.told.step c.args.caller) c.make_room.ensures.same c.enter.ensures (λ _. cc) (cc)

pub returns : goal.returns
returns g c = call_made _ _ _ _ _ _ _ _ _ _ _ _ c.self.view_is c.in_ok-make_room.ensures.room (c.status-status.ensures.did.told.step c.args.caller) c.make_room.ensures.same c.enter.ensures (λ _. cc) (cc) (same_later _ c.layout-layout.ensures.sound) c.status-status.ensures.did
