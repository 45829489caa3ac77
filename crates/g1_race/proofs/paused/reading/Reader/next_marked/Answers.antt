-- No card is dirty before the one that is looked at.
use Rattle.std.specs.Prelude.{◌≡◌}
use Rattle.g1_race.specs.{List, ℕ, ap, ◌∙◌, subst, arith, some, get_elem?, mark_word}
use Rattle.g1_race.proofs.{clean_past, marked_next}
use Rattle.g1_race.proofs.paused.reading.Reader.next_marked.Goals as goal

pub returns-then-see-eq1-clause-next : goal.returns-then-see-eq1-clause-next
returns-then-see-eq1-clause-next c =
    let k = c.args.race.now.shape in
    let i = c.loop-card.invariant in
    let at = subst (λ (l : List ℕ). get_elem? l (mark_word k c.in-Some.card) ≡ some c.see.result) (ap (λ r. r.start.words) c.next_flagged.ensures.same) c.see.ensures.word in
    marked_next k c.args.from c.loop-card.next (ap (λ r. r.start.words) i.same) i.none c.in-Some.card c.see.result c.in-Some.ensures.next at i.past c.if-see-eq1.true

pub loop-card-preserved : goal.loop-card-preserved
loop-card-preserved c =
    let k = c.args.race.now.shape in
    let i = c.loop-card.invariant in
    let at = subst (λ (l : List ℕ). get_elem? l (mark_word k c.in-Some.card) ≡ some c.see.result) (ap (λ r. r.start.words) c.next_flagged.ensures.same) c.see.ensures.word in
    record {
      same = c.see.ensures.same ∙ (c.next_flagged.ensures.same ∙ i.same);
      past = omega (arith, i.past, c.in-Some.ensures.next.0);
      none = clean_past k c.args.from c.loop-card.next (ap (λ r. r.start.words) i.same) i.none c.in-Some.card c.see.result c.in-Some.ensures.next at c.if-see-eq1.false;
    }
