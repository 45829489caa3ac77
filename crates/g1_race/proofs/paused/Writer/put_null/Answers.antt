-- A slot that is null stays as it is.
use Rattle.std.specs.Prelude.{◌≡◌}
use Rattle.std.proofs.lemmas.List.{set-get_or}
use Rattle.g1_race.specs.{ℕ, List, set, refl, sym, ap, ◌∙◌, subst, some, get_elem?, IsBegun, started, reads_as, words_of, heap_of}
use Rattle.g1_race.proofs.paused.Writer.put_null.Goals as goal

null_there : (words : List ℕ) (slot found : ℕ) → get_elem? words slot ≡ some found → found ≡ 0 → set words slot 0 ≡ words
null_there words slot found there is = ap (set words slot) (sym (reads_as words slot found 0 there ∙ is)) ∙ set-get_or words slot 0

pub returns-else-see-ne0 : goal.returns-else-see-ne0
returns-else-see-ne0 c = record {
  race = refl;
  reader = refl;
  begun = subst (λ (words : List ℕ). IsBegun (started (heap_of c.args.self.now) words)) (sym (ap (λ r. r.start.words) c.see.ensures.same)) c.see.ensures.begun;
  words = ap (λ r. r.start.words) c.see.ensures.same ∙ sym (null_there (words_of c.args.self.now) c.args.slot c.see.result c.see.ensures.word c.if-see-ne0.false);
}
