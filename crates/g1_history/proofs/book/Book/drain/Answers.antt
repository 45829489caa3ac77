use Rattle.g1_history.specs.{ℕ, length, ap, arith, ◌∙◌, card_count, refined_few}
use Rattle.g1_history.proofs.RoomLemmas.{drain_few}
use Rattle.g1_history.proofs.{call_kept, call_made, drain_answers}
use Rattle.g1_history.proofs.book.Book.drain.Goals as goal

pub copied_reply-reply-requires-clause-room : goal.copied_reply-reply-requires-clause-room
copied_reply-reply-requires-clause-room g c kept =
    omega (arith, drain_few _ _ _ _ c.in_ok-answer.ensures.did, c.card_count.ensures.count ∙ ap card_count c.layout.ensures.value, c.in_ok-cards_room.ensures.room kept)

pub copied-refined-requires-clause-room : goal.copied-refined-requires-clause-room
copied-refined-requires-clause-room g c kept = omega (arith, ap (length {A = ℕ}) c.drained_cards.ensures, refined_few _ _ (c.in_ok-answer.ensures.step c.args.caller).allowed.refines, c.in_ok-refined_room.ensures.room kept)

pub invariant_of-self-2 : goal.invariant_of-self-2
invariant_of-self-2 g c = call_kept _ _ _ _ _ _ _ _ _ c.self.invariant c.in_ok-make_room.ensures.room (c.in_ok-answer.ensures.step c.args.caller) c.make_room.ensures.same c.enter.ensures (λ kept. cc (c.copied_reply-reply.ensures kept, c.copied-refined.ensures kept)) (cc)

pub returns-clause-call : goal.returns-clause-call
returns-clause-call g c = call_made _ _ _ _ _ _ _ _ _ _ _ _ c.self.view_is c.in_ok-make_room.ensures.room (c.in_ok-answer.ensures.step c.args.caller) c.make_room.ensures.same c.enter.ensures (λ kept. cc (c.copied_reply-reply.ensures kept, c.copied-refined.ensures kept)) (cc) c.in_ok-answer.ensures.later c.in_ok-answer.ensures.did

pub returns-clause-exact : goal.returns-clause-exact
returns-clause-exact g c = drain_answers _ _ _ c.args.caller c.args.region c.in_ok-answer.answer c.self.view_is c.self.invariant (c.in_ok-answer.ensures.step c.args.caller).allowed
