use Rattle.g1_history.specs.{ℕ, length, ap, arith, refined_few}
use Rattle.g1_history.proofs.{call_kept, call_made}
use Rattle.g1_history.proofs.book.Book.redirect.Goals as goal

pub copied-refined-requires-clause-room : goal.copied-refined-requires-clause-room
copied-refined-requires-clause-room g c kept = omega (arith, ap (length {A = ℕ}) c.redirected_cards.ensures, refined_few _ _ (c.in_ok-answer.ensures.step c.args.caller).allowed.refines, c.in_ok-room.ensures.room kept)

pub invariant_of-self-2 : goal.invariant_of-self-2
invariant_of-self-2 g c = call_kept _ _ _ _ _ _ _ _ _ c.self.invariant c.in_ok-make_room.ensures.room (c.in_ok-answer.ensures.step c.args.caller) c.make_room.ensures.same c.enter.ensures (λ kept. cc (c.copied-refined.ensures kept)) (cc)

pub returns : goal.returns
returns g c = call_made _ _ _ _ _ _ _ _ _ _ _ _ c.self.view_is c.in_ok-make_room.ensures.room (c.in_ok-answer.ensures.step c.args.caller) c.make_room.ensures.same c.enter.ensures (λ kept. cc (c.copied-refined.ensures kept)) (cc) c.in_ok-answer.ensures.later c.in_ok-answer.ensures.did
