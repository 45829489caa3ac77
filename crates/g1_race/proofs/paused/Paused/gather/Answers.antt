-- The list is that of the members of the race that was lent.
use Rattle.g1_race.specs.{List, ℕ, sym, subst, AreMembers, member_cards, Pause, table_at}
use Rattle.g1_race.proofs.{members_are, lent_begun, lent_region, lent_view}
use Rattle.g1_race.proofs.paused.Paused.gather.Goals as goal

pub returns-clause-members : goal.returns-clause-members
returns-clause-members g c =
    let race = c.race.result.now in
    let words = c.self.inside.reader.start.words in
    subst (λ (cs : List ℕ). AreMembers (table_at c.args.self.now) c.args.region cs) (sym c.list.ensures.cards)
    (subst (λ (h : Pause). AreMembers (table_at h) c.args.region (member_cards race.shape words c.number.result)) (lent_view c.race.ensures c.self.view_is)
    (members_are race.shape race.layout race.laid words c.args.region c.number.result (lent_begun c.race.ensures c.self.invariant.1) c.number.ensures (lent_region c.race.ensures c.self.view_is c.number.ensures c.requires.region)))
