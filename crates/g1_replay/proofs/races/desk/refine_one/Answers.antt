use Rattle.g1_replay.specs.{◌∙◌}
use Rattle.g1_replay.proofs.SweptLemmas.{swept_ok}
use Rattle.g1_replay.proofs.races.desk.refine_one.Goals as goal

pub returns-clause-swept : goal.returns-clause-swept
returns-clause-swept c = swept_ok _ _ _ _ _ _ (c.in-Some.ensures.1 ∙ c.number.ensures) c.refine.ensures.swept
