-- The regions' numbers are those of the race that was lent, and no card is dirty.
use Rattle.std.specs.Prelude.{◌≡◌}
use Rattle.g1_race.specs.{ℕ, true, sym, ap, ◌∙◌, subst, nat_cmp, true≢false, CardSet, moved_count, word_after, Pause, table_at, WordsBecome, AreUnflagged, words_of}
use Rattle.std.specs.FinSet as set
use Rattle.g1_race.specs.declared.race.Race.{Race}
use Rattle.g1_race.proofs.{still_unflagged, word_pending, moved_words, lent_begun, lent_region, lent_view}
use Rattle.g1_race.proofs.MovedTable.{count_is}
use Rattle.g1_race.proofs.paused.Paused.move_all.Goals as goal

pub move_references-requires-clause-clean : goal.move_references-requires-clause-clean
move_references-requires-clause-clean g c d lt at =
    let race = c.race-race.result.now in
    let words = c.self.inside.reader.start.words in
    let is = subst (λ (h : Pause). set.contains (table_at h).pending d ≡ true) (lent_view c.race-race.ensures c.self.view_is) (word_pending race.shape race.layout race.laid words d lt at) in
    true≢false (sym is ∙ (ap (λ (s : CardSet). set.contains s d) c.requires.clean ∙ set.contains-empty nat_cmp d))

pub returns-clause-count : goal.returns-clause-count
returns-clause-count g c =
    let race = c.race-race.result.now in
    let old = c.self.inside.reader.start.words in
    c.move_references.ensures.count ∙ (count_is race.shape race.layout race.laid old (words_of c.move_references.new.self) c.number.result c.number-2.result (lent_begun c.race-race.ensures c.self.invariant.1) c.move_references.ensures.moved.begun c.move_references.ensures.moved.words (lent_region c.race-race.ensures c.self.view_is c.number-2.ensures c.requires.to)
    ∙ (λ i. moved_count (c.number.ensures i) (table_at (lent_view c.race-race.ensures c.self.view_is i))))

pub returns-clause-flags : goal.returns-clause-flags
returns-clause-flags g c none =
    subst (λ (r : Race). AreUnflagged r.shape (words_of c.move_references.new.self)) c.race-race.ensures
    (still_unflagged c.race-race.result.now.shape c.self.inside.reader.start.words _ c.number.result c.number-2.result (lent_region c.race-race.ensures c.self.view_is c.number-2.ensures c.requires.to) c.move_references.ensures.moved.words (subst (λ (h : Pause). AreUnflagged h.shape h.words) (sym (lent_view c.race-race.ensures c.self.view_is)) none))

pub returns-clause-words : goal.returns-clause-words
returns-clause-words g c =
    let k = c.race-race.result.now.shape in
    let old = c.self.inside.reader.start.words in
    let new = (words_of c.move_references.new.self) in
    subst (λ (h : Pause). WordsBecome (word_after h.shape c.args.from c.args.to) h.shape h.words new) (lent_view c.race-race.ensures c.self.view_is)
    (subst (λ (x : ℕ × ℕ). WordsBecome (word_after k x.0 x.1) k old new) (λ i. (c.number.ensures i, c.number-2.ensures i)) (moved_words k old new c.number.result c.number-2.result c.move_references.ensures.moved.words))
