-- Data is stored as null is, and any other word as what it refers to.
use Rattle.std.specs.Prelude.{◌≡◌, ◌/◌, ◌<◌, ◌^◌}
use Rattle.g1_race.specs.{inl, ⊎_elim, IsFlagged, ℕ, Option, None, Null, sym, ap, ◌∙◌, subst, arith, kind_of, stored, word_of, table_at, SlotsBecome, one_word, IsStep, store_entry, unfilled}
use Rattle.g1_race.specs.Over as over
use Rattle.g1_race.proofs.{target_data, target_word}
use Rattle.g1_race.proofs.paused.Paused.store_word.Goals as goal

pub returns-then-word : goal.returns-then-word
returns-then-word g c =
    let old = c.args.self.now in
    let new = c.store_data.new.self in
    let none : None ≡ over.target_of_word c.args.word = sym (target_data c.args.word (omega (arith, c.if-word.true))) in
    let done = c.store_data.ensures in
    record {
      race = done.race;
      words = done.words;
      kind_is = ap (kind_of (table_at old) c.args.slot) none;
      table = done.table ∙ ap (stored (table_at old) c.args.slot) none;
      step = λ caller. subst (λ (t : Option ℕ). IsStep (table_at old) (store_entry caller c.args.slot t (unfilled Null)) (table_at new)) none (done.step caller);
      flags = λ card lt b. ⊎_elim (λ (o : IsFlagged old.shape old.words card). inl o) (λ (s : (x : ℕ) × ⊥ × (x / 8 ≡ card / 8)). absurd s.1) (done.flags card lt b);
    }

pub returns : goal.returns
returns g c =
    let old = c.args.self.now in
    let new = c.store.new.self in
    let low : c.args.word < 2 ^ 32 = omega (arith, c.if-word.false) in
    let target = c.refers_to.ensures.target in
    let done = c.store.ensures in
    record {
      race = done.race;
      words = subst (λ (w : ℕ). SlotsBecome (one_word c.args.slot w) old new) (ap word_of target ∙ target_word c.args.word low) done.words;
      kind_is = done.kind_is ∙ ap (kind_of (table_at old) c.args.slot) target;
      table = done.table ∙ ap (stored (table_at old) c.args.slot) target;
      step = λ caller. subst (λ (t : Option ℕ). IsStep (table_at old) (store_entry caller c.args.slot t (unfilled c.store.result)) (table_at new)) target (done.step caller);
      flags = done.flags;
    }
