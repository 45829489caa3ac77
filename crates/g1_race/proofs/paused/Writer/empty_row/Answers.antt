-- The words of the row before the one that is read are 0.
use Rattle.std.specs.Prelude.{◌≡◌, ◌+◌, ◌*◌}
use Rattle.g1_race.specs.{ℕ, List, slice_set, sym, ap, ◌∙◌, subst, arith, some, get_elem?, IsBegun, mark_word, started, IsEmptied, words_of, Writes, heap_of}
use Rattle.g1_race.proofs.{front_at, row_word, begun_emptied, emptied_next, emptied_past, into_back, begun_on, writes_next}
use Rattle.g1_race.proofs.paused.Writer.empty_row.Goals.{In-loop-i, then-see-ne0, else-see-ne0}
use Rattle.g1_race.specs.declared.paused.Writer.{Writer}
use Rattle.g1_race.proofs.paused.Writer.empty_row.Goals as goal

-- the word that is read
at : (c : In-loop-i) → c.bit_of-first.result.0 + c.loop-i.i ≡ row_word (heap_of c.args.self.now) c.args.region c.loop-i.i
at c = let k = heap_of c.args.self.now in let r : ℕ = c.args.region * k.row in let e : c.bit_of-first.result.0 ≡ k.slots + k.cards + (r + 0) = c.bit_of-first.ensures.word in let goal : c.bit_of-first.result.0 + c.loop-i.i ≡ k.slots + k.cards + (r + c.loop-i.i) = omega (arith, e) in goal

pub put-requires-clause-begun : goal.put-requires-clause-begun
put-requires-clause-begun c =
    let k = heap_of c.args.self.now in
    let i = c.loop-i.invariant in
    let old = words_of c.args.self.now in
    let words = words_of c.loop-i.self in
    begun_on i.race (subst (λ (ws : List ℕ). IsBegun (started k ws)) (λ j. slice_set (sym (ap (λ r. r.start.words) c.see.ensures.same) j) (sym (at ((goal.at.put-requires-clause-begun c).In-loop-i)) j) 0)
    (begun_emptied k words c.args.region c.loop-i.i i.begun c.requires.region c.loop-i-test.true (λ p x. c.requires.none p (into_back k old words c.args.region p i.words.front x))
    (λ e d lt m. c.requires.clean e d lt (sym (front_at k old words (mark_word k d) i.words.front (omega (arith, lt))) ∙ m))))

pub loop-i-preserved : goal.loop-i-preserved
loop-i-preserved c =
    let k = heap_of c.args.self.now in
    let i = c.loop-i.invariant in
    let n = c.loop-i.i in
    let old = words_of c.args.self.now in
    let words = words_of c.loop-i.self in
    let here = at ((goal.at.loop-i-preserved c).In-loop-i) in
    let same = ap (λ r. r.start.words) c.see.ensures.same in
    let done = λ (s : Writer). Writes c.args.self.now s (λ heap old new. IsEmptied heap old new c.args.region (n + 1)) in
    elim c.if-see-ne0.branch [
      | then-see-ne0 w ↦ subst done (sym w.self-is) (writes_next i.race i.reader w.put.ensures (λ put.
          subst (λ (l : List ℕ). IsEmptied k old l c.args.region (n + 1)) (sym (put ∙ (λ j. slice_set (same j) (here j) 0))) (emptied_next k words c.args.region n i.begun c.requires.region c.loop-i-test.true old i.words)))
      | else-see-ne0 w ↦ subst done (sym w.self-is) (record { race = i.race; reader = i.reader; begun = subst (λ (ws : List ℕ). IsBegun (started k ws)) (sym same) i.begun; words = subst (λ (l : List ℕ). IsEmptied k old l c.args.region (n + 1)) (sym same) (emptied_past k old words c.args.region n c.see.result (subst (λ (j : ℕ). get_elem? words j ≡ some c.see.result) here c.see.ensures.word) w.if-see-ne0.false i.words) })
    ]
