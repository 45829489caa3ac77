use Rattle.g1_race.specs.{subst, TellsTarget, Pause, table_at}
use Rattle.g1_race.proofs.{lent_view}
use Rattle.g1_race.proofs.paused.Paused.target.Goals as goal

pub returns-clause-told : goal.returns-clause-told
returns-clause-told g c = subst (λ (h : Pause). TellsTarget (table_at h) c.args.slot c.target.result) (lent_view c.race.ensures c.self.view_is) c.target.ensures.told
