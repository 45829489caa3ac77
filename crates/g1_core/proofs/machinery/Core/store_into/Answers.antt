use Rattle.g1_core.specs.{rules}
use Rattle.g1_core.proofs.{stored_step}
use Rattle.g1_core.proofs.machinery.Core.store_into.Goals as goal

pub returns-clause-step : goal.returns-clause-step
returns-clause-step c = λ caller. stored_step caller c.args.self.now c.store_unlogged-kind.new.self _ _ _ (search rules) (c.requires.slot, c.requires.target)

pub returns-in_default-clause-step : goal.returns-in_default-clause-step
returns-in_default-clause-step c = λ caller. stored_step caller c.args.self.now c.store_unlogged-kind.new.self _ _ _ (search rules) (c.requires.slot, c.requires.target)
