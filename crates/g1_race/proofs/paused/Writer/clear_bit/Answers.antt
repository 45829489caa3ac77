-- The pair's bit is cleared in its word.
use Rattle.std.specs.Prelude.{◌≡◌}
use Rattle.g1_race.specs.{ℕ, List, sym, ap, ◌∙◌, subst, IsBegun, started, AreUnset, words_of, refl, heap_of}
use Rattle.g1_race.proofs.{begun_unset, unset_is, without_found, writes_next}
use Rattle.g1_race.proofs.paused.Writer.clear_bit.Goals as goal

pub put-requires-clause-begun : goal.put-requires-clause-begun
put-requires-clause-begun c = subst (λ (l : List ℕ). IsBegun (started (heap_of c.args.self.now) l)) (sym (without_found (heap_of c.args.self.now) (words_of c.args.self.now) _ (c.args.card, c.args.region) c.bit_of-at.result.0 c.bit_of-at.result.1 c.see-found.result (ap (λ r. r.start.words) c.see-found.ensures.same) c.bit_of-at.ensures.word c.bit_of-at.ensures.index c.see-found.ensures.word))
    (begun_unset (heap_of c.args.self.now) (words_of c.args.self.now) (c.args.card, c.args.region) c.see-found.ensures.begun c.requires.pair (λ p n lt at cr e. c.requires.closed p n lt at cr (ap (λ (y : ℕ × ℕ). y.0) e) (ap (λ (y : ℕ × ℕ). y.1) e)))

pub returns : goal.returns
returns c = writes_next refl refl c.put.ensures (λ put. subst (λ (l : List ℕ). AreUnset (heap_of c.args.self.now) (words_of c.args.self.now) l (λ y. y ≡ (c.args.card, c.args.region))) (sym (put ∙ without_found (heap_of c.args.self.now) (words_of c.args.self.now) _ (c.args.card, c.args.region) c.bit_of-at.result.0 c.bit_of-at.result.1 c.see-found.result (ap (λ r. r.start.words) c.see-found.ensures.same) c.bit_of-at.ensures.word c.bit_of-at.ensures.index c.see-found.ensures.word))
    (unset_is (heap_of c.args.self.now) (words_of c.args.self.now) (c.args.card, c.args.region) c.see-found.ensures.begun c.requires.pair))
