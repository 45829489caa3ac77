-- The pair's bit is set in its word.
use Rattle.std.specs.Prelude.{◌∷◌}
use Rattle.g1_race.specs.{ℕ, [], List, sym, ap, ◌∙◌, subst, IsBegun, started, Notes, words_of, refl, heap_of}
use Rattle.g1_race.proofs.{begun_bit, notes_bit, with_found, writes_next}
use Rattle.g1_race.proofs.paused.Writer.set_bit.Goals as goal

pub put-requires-clause-begun : goal.put-requires-clause-begun
put-requires-clause-begun c = subst (λ (l : List ℕ). IsBegun (started (heap_of c.args.self.now) l)) (sym (with_found (heap_of c.args.self.now) (words_of c.args.self.now) _ (c.args.card, c.args.region) c.bit_of-at.result.0 c.bit_of-at.result.1 c.see-found.result (ap (λ r. r.start.words) c.see-found.ensures.same) c.bit_of-at.ensures.word c.bit_of-at.ensures.index c.see-found.ensures.word))
    (begun_bit (heap_of c.args.self.now) (words_of c.args.self.now) (c.args.card, c.args.region) c.see-found.ensures.begun c.requires.card c.requires.row c.requires.proper)

pub returns : goal.returns
returns c = writes_next refl refl c.put.ensures (λ put. subst (λ (l : List ℕ). Notes (heap_of c.args.self.now) (words_of c.args.self.now) l ((c.args.card, c.args.region) ∷ [])) (sym (put ∙ with_found (heap_of c.args.self.now) (words_of c.args.self.now) _ (c.args.card, c.args.region) c.bit_of-at.result.0 c.bit_of-at.result.1 c.see-found.result (ap (λ r. r.start.words) c.see-found.ensures.same) c.bit_of-at.ensures.word c.bit_of-at.ensures.index c.see-found.ensures.word))
    (notes_bit (heap_of c.args.self.now) (words_of c.args.self.now) (c.args.card, c.args.region) c.see-found.ensures.begun c.requires.card c.requires.row))
