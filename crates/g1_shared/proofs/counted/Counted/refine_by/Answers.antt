use Rattle.g1_core.specs.Calls.{refine_entry}
use Rattle.g1_shared.specs.{ap, sym, refl, BookTerms}
use Rattle.g1_shared.proofs.{call_counted}
use Rattle.g1_shared.proofs.counted.Counted.refine_by.Goals as goal

pub invariant_of-self-2 : goal.invariant_of-self-2
invariant_of-self-2 g c = call_counted _ g.M.Terms.terms _ _ _ _ _ _ _ _ _ c.self.invariant c.in_ok-reply.ensures.made.entered refl c.raise_made.ensures.total c.raise_made.ensures.records (ap (λ n. refine_entry n c.in_ok-reply.reply) (sym c.number.ensures))

-- the reply is one of the book's state
pub returns-clause-answer : goal.returns-clause-answer
returns-clause-answer g c =
    (c.self.inside.book.machine.state, c.refine.new.self.machine.state, ap (λ (t : BookTerms). t.layout) c.self.invariant.led.kept, c.in_ok-reply.ensures.made.did.refined)
