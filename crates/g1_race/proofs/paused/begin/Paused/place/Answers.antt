use Rattle.std.proofs.Common.{rules}
-- The pairs, the marks and the slots become those of the core, one after another.
use Rattle.std.specs.Prelude.{◌≡◌}
use Rattle.g1_race.specs.{words_of, IsPending, RaisesOnly, All, sym, ap, ◌∙◌, subst, IsPairOf, Start, Pause, start_at, null_of, word_count, zeros}
use Rattle.g1_layout.specs.Shape as layout
use Rattle.g1_race.proofs.{listed_cross, slots_covered, by_race, flags_of, notes_rises}
use Rattle.g1_race.proofs.paused.begin.Paused.place.Goals as goal

null_words : (h i : Pause) → h ≡ i → start_at i ≡ null_of i.shape → h.words ≡ zeros (word_count h.shape)
null_words h i e null = ap (λ (x : Pause). x.words) e ∙ (ap (λ (b : Start). b.words) null ∙ ap (λ (x : Pause). (null_of x.shape).words) (sym e))

pub place_pairs-requires : goal.place_pairs-requires
place_pairs-requires c =
    let race = c.self.inside.race in
    listed_cross race.layout race.shape c.args.pairs.now race.laid race.shaped (subst (λ (l : layout.Shape). All (IsPairOf l) c.args.pairs.now) (sym (ap (λ (h : Pause). h.layout) c.self.view_is ∙ c.requires.layout)) c.requires.within)

pub place_slots-requires-clause-covered : goal.place_slots-requires-clause-covered
place_slots-requires-clause-covered c = search (rules, slots_covered, null_words)

pub returns-clause-flags : goal.returns-clause-flags
returns-clause-flags c =
    let race = c.self.inside.race in
    let k = race.shape in
    flags_of k c.args.core.now.state.table (word_count k) c.self.inside.reader.start.words (words_of c.place_pairs.new.self) (words_of c.place_marks.new.self) (words_of c.place_slots.new.self) (null_words _ _ c.self.view_is c.requires.null)
    (notes_rises k (λ card. ⊥) c.self.inside.reader.start.words (words_of c.place_pairs.new.self) c.args.pairs.now (λ x i. (listed_cross race.layout race.shape c.args.pairs.now race.laid race.shaped (subst (λ (l : layout.Shape). All (IsPairOf l) c.args.pairs.now) (sym (ap (λ (h : Pause). h.layout) c.self.view_is ∙ c.requires.layout)) c.requires.within) x i).0.1) c.place_pairs.ensures.words)
    (by_race (λ heap. RaisesOnly (IsPending c.args.core.now.state.table) heap (words_of c.place_pairs.new.self) (words_of c.place_marks.new.self)) (sym c.place_pairs.ensures.race) c.place_marks.ensures.flags)
    (by_race (λ heap. RaisesOnly (λ card. ⊥) heap (words_of c.place_marks.new.self) (words_of c.place_slots.new.self)) (sym (c.place_marks.ensures.marks.race ∙ c.place_pairs.ensures.race)) c.place_slots.ensures.flags)
