use Rattle.g1_sets.specs.{subst, AreTied, lists_of}
use Rattle.g1_sets.proofs.{tied}
use Rattle.g1_sets.proofs.sets.Sets.members.Goals as goal

pub returns-clause-tied : goal.returns-clause-tied
returns-clause-tied c = subst AreTied c.self.view_is (tied c.self.inside.layout (lists_of c.self.inside.sets.items) c.self.invariant.of_heap)
