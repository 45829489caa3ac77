use Rattle.g1_race.specs.{subst, TellsPending, Pause, table_at}
use Rattle.g1_race.proofs.{lent_view}
use Rattle.g1_race.proofs.paused.Paused.is_pending.Goals as goal

pub returns-clause-told : goal.returns-clause-told
returns-clause-told g c = subst (λ (h : Pause). TellsPending (table_at h) c.args.card c.is_pending.result) (lent_view c.race.ensures c.self.view_is) c.is_pending.ensures.told
