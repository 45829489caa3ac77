use Rattle.g1_core.specs.Calls.{status_entry}
use Rattle.g1_shared.specs.{ap, sym, refl}
use Rattle.g1_shared.proofs.{call_counted}
use Rattle.g1_shared.proofs.counted.Counted.status.Goals as goal

pub invariant_of-self-2 : goal.invariant_of-self-2
invariant_of-self-2 g c = call_counted _ g.M.Terms.terms _ _ _ _ _ _ _ _ _ c.self.invariant c.in_ok-status.ensures.made.entered refl c.raise_made.ensures.total c.raise_made.ensures.records (ap (λ n. status_entry n c.in_ok-status.status) (sym c.number.ensures))
