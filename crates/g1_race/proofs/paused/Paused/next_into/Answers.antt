use Rattle.g1_race.specs.{subst, IsNextInto, Pause, table_at}
use Rattle.g1_race.proofs.{lent_view}
use Rattle.g1_race.proofs.paused.Paused.next_into.Goals as goal

pub returns-clause-next : goal.returns-clause-next
returns-clause-next g c = subst (λ (h : Pause). IsNextInto (table_at h) c.args.regions.now c.args.from c.next_into.result) (lent_view c.race.ensures c.self.view_is) c.next_into.ensures.next
