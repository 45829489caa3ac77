use Rattle.std.proofs.Common.{arith, rules}
use Rattle.std.proofs.lemmas.Grind.{common_steps}
use Rattle.g1_race.specs.{subst, Table, Pause, ended, table_at, table_of, AreAllRefined, marked_cards, words_of}
use Rattle.g1_race.proofs.{all_refined, held_table, lent_begun, lent_view}
use Rattle.g1_race.proofs.paused.Paused.refine_all.Goals as goal

pub returns-clause-did : goal.returns-clause-did
returns-clause-did g c =
    let race = c.race-race.result.now in
    let k = race.shape in
    let old = c.self.inside.reader.start.words in
    let new = (words_of c.refine_cards.new.self) in
    let all = all_refined k race.layout race.laid old new (lent_begun c.race-race.ensures c.self.invariant.1) c.refine_cards.ensures.refined.begun c.refine_cards.ensures.refined.words in
    record {
      race = grind (arith, common_steps);
      words = search rules;
      refined = subst (λ (h : Pause). AreAllRefined (table_at h) (marked_cards h.shape h.words) (table_of (ended (g.R.HoldsRace.held c.self.inside.race).layout (g.R.HoldsRace.held c.self.inside.race).shape new))) (lent_view c.race-race.ensures c.self.view_is)
          (subst (λ (t : Table). AreAllRefined (table_of (ended race.layout k old)) (marked_cards k old) t) (held_table new c.race-race.ensures) all);
    }
