-- The row is emptied as by a clear that is granted.
use Rattle.std.proofs.Common.{arith, refl, rules}
use Rattle.std.specs.Prelude.{◌≡◌}
use Rattle.g1_race.specs.{ℕ, length, ap, ◌∙◌, subst, nat_cmp, CardSet, Cleared, IsStep, clear_entry, Enters, Into, Pause, RaisesOnly, marked_cards, words_of, ended, table_at, table_of}
use Rattle.std.specs.FinSet as fin
use Rattle.g1_race.proofs.{clear_granted, at_pause, lent_begun, lent_numbers, lent_view, pending_len, word_enters, none_rises, of_a_pause}
use Rattle.g1_race.proofs.paused.Paused.empty.Given.{Over}
use Rattle.g1_race.proofs.paused.Paused.empty.Goals.{After-number}
use Rattle.g1_race.proofs.paused.Paused.empty.Goals as goal

never : (g : Over) (c : After-number g) (p : ℕ) → Into c.race-race.result.now.shape c.self.inside.reader.start.words c.number.result p → ⊥
never g c p x =
    let race = c.race-race.result.now in
    let words = c.self.inside.reader.start.words in
    c.requires.none p (subst (λ (h : Pause). Enters (table_at h) p c.args.region) (lent_view c.race-race.ensures c.self.view_is)
    (word_enters race.shape race.layout race.laid words p c.args.region (subst (λ (r : ℕ). Into race.shape words r p) c.number.ensures x)))

pub empty_row-requires-clause-none : goal.empty_row-requires-clause-none
empty_row-requires-clause-none g c = never g ((goal.at.empty_row-requires-clause-none g c).After-number)

pub returns : goal.returns
returns g c =
    let race = c.race-race.result.now in
    let words = c.self.inside.reader.start.words in
    let begun = lent_begun c.race-race.ensures c.self.invariant.1 in
    let new = words_of c.empty_row.new.self in
    let pending : (table_of (ended race.layout race.shape words)).pending ≡ fin.empty = ap (λ (h : Pause). (table_at h).pending) (lent_view c.race-race.ensures c.self.view_is) ∙ c.requires.clean in
    let clean : length (marked_cards race.shape words) ≡ 0 = pending_len race.shape race.layout race.laid words begun ∙ (ap (λ (s : CardSet). fin.len s) pending ∙ fin.len-empty nat_cmp) in
    record {
      race = search rules;
      words = grind (arith, of_a_pause);
      step = λ caller. at_pause (λ t u. IsStep t (clear_entry caller c.args.region Cleared) u) new c.race-race.ensures c.self.view_is
          (clear_granted race.shape race.layout race.laid words words begun refl caller c.args.region (lent_numbers c.race-race.ensures c.self.view_is c.requires.region)
          (length (marked_cards race.shape words)) refl (omega (arith, clean)) c.number.result c.number.ensures words new refl (never g ((goal.at.returns g c).After-number)) c.empty_row.ensures.begun c.empty_row.ensures.words);
      refused = λ ne. absurd (ne refl);
      flags = subst (λ (h : Pause). RaisesOnly (λ card. ⊥) h.shape h.words new) (lent_view c.race-race.ensures c.self.view_is)
          (none_rises race.shape (λ card. ⊥) words new (λ x low b. c.empty_row.ensures.words.only x low b));
    }
