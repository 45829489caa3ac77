-- The cards from the first of the region on are the region's.
use Rattle.std.proofs.Common.{arith, rules}
use Rattle.std.specs.Prelude.{◌≢◌}
use Rattle.g1_race.specs.{ℕ, sym, ◌∙◌, subst, region_of, Crosses, forgotten, Pause, RaisesOnly, table_at, words_of}
use Rattle.g1_race.proofs.{front_words, held_table, lent_begun, lent_region, lent_view, none_rises, closed_words, forgotten_is}
use Rattle.g1_race.proofs.paused.Paused.forget.Goals as goal

pub forget_cards-requires-clause-closed : goal.forget_cards-requires-clause-closed
forget_cards-requires-clause-closed g c =
    let race = c.race-race.result.now in
    closed_words race.shape race.layout race.laid race.shaped c.number.result (lent_region c.race-race.ensures c.self.view_is c.number.ensures c.requires.region) c.self.inside.reader.start.words
    (subst (λ (h : Pause). (slot place : ℕ) → Crosses (table_at h) slot place → region_of h.layout slot ≢ c.number.result) (sym (lent_view c.race-race.ensures c.self.view_is))
    (subst (λ (r : ℕ). (slot place : ℕ) → Crosses (table_at c.args.self.now) slot place → region_of c.args.self.now.layout slot ≢ r) (sym c.number.ensures) c.requires.closed))

pub returns : goal.returns
returns g c =
    let race = c.race-race.result.now in
    let new = (words_of c.forget_cards.new.self) in
    record {
      within = c.requires.region;
      race = search rules;
      words = grind (arith, front_words, lent_view);
      flags = subst (λ (h : Pause). RaisesOnly (λ card. ⊥) h.shape h.words new) (lent_view c.race-race.ensures c.self.view_is) (none_rises race.shape (λ card. ⊥) c.self.inside.reader.start.words new (λ x low b. c.forget_cards.ensures.words.only x low b));
      table = sym (held_table new c.race-race.ensures) ∙ (forgotten_is race.shape race.layout race.laid race.shaped c.number.result (lent_region c.race-race.ensures c.self.view_is c.number.ensures c.requires.region) c.self.inside.reader.start.words new
          (lent_begun c.race-race.ensures c.self.invariant.1) c.forget_cards.ensures.begun c.forget_cards.ensures.words ∙ (λ i. forgotten (c.number.ensures i) (table_at ((lent_view c.race-race.ensures c.self.view_is) i))));
    }
