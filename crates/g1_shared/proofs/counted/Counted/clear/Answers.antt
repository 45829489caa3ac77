use Rattle.g1_core.specs.Calls.{clear_entry}
use Rattle.g1_shared.specs.{ap, sym, refl}
use Rattle.g1_shared.proofs.{call_counted}
use Rattle.g1_shared.proofs.counted.Counted.clear.Goals as goal

pub invariant_of-self-2 : goal.invariant_of-self-2
invariant_of-self-2 g c = call_counted _ g.M.Terms.terms _ _ _ _ _ _ _ _ _ c.self.invariant c.in_ok-answer.ensures.made.entered refl c.raise_made.ensures.total c.raise_made.ensures.records (ap (λ n. clear_entry n c.args.region c.in_ok-answer.answer) (sym c.number.ensures))
