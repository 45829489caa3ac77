use Rattle.g1_race.specs.{IfOk, subst, TellsMembers, Pause, table_at}
use Rattle.g1_race.proofs.{lent_view}
use Rattle.g1_race.proofs.paused.Paused.members.Goals as goal

pub returns-clause-told : goal.returns-clause-told
returns-clause-told g c = subst (λ (h : Pause). IfOk c.members.result (TellsMembers (table_at h) c.args.region)) (lent_view c.race.ensures c.self.view_is) c.members.ensures.told
