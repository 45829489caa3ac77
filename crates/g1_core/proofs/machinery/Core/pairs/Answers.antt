use Rattle.g1_core.specs.{◌∙◌, ap, subst, AreOutside}
use Rattle.g1_core.specs.Machine.{Machine}
use Rattle.g1_core.proofs.AdoptionLemmas.{pairs_of_heap}
use Rattle.g1_core.proofs.machinery.Core.pairs.Goals as goal

pub returns-clause-within : goal.returns-clause-within
returns-clause-within c = pairs_of_heap c.args.self.now.state.table c.in_ok-pairs.pairs.items
    (subst (λ (m : Machine). AreOutside m.state.table) c.self.view_is c.self.invariant.parts.outside)
    (c.in_ok-pairs.ensures.pairs ∙ ap (λ (m : Machine). m.state.table.recorded) c.self.view_is)
