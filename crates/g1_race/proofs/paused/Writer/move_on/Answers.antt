use Rattle.std.specs.Prelude.{◌≡◌, ◌+◌, ◌*◌, ◌<◌}
use Rattle.g1_race.specs.{ℕ, eqb, Bool, true, false, List, get_or, sym, ap, ◌∙◌, subst, inr, arith, some, some-injective, get_elem?, and_parts, eqb-true, false_from_ne_true, crosses, as_number, region_at, AreMoved, into_count, is_into, reads_as, words_of, Writes, IsBegun, started}
use Rattle.g1_race.proofs.{slot_below, count_one, is_into_of, writes_next, moved_none, moved_then}
use Rattle.g1_race.proofs.paused.Writer.move_on.Goals.{then-enters, else-enters}
use Rattle.g1_race.specs.declared.paused.Writer.{Writer}
use Rattle.g1_race.proofs.paused.Writer.move_on.Goals as goal

pub loop-i-preserved : goal.loop-i-preserved
loop-i-preserved c =
    let race = c.args.self.now.race.now in
    let k = race.shape in
    let i = c.loop-i.invariant in
    let old = words_of c.args.self.now in let mid = words_of c.loop-i.self in
    let from = c.args.from in let to = c.args.to in
    let first : ℕ = c.args.card * k.size in
    let p : ℕ = first + c.loop-i.i in
    let n = c.see-word.result in
    let lt : p < k.slots = slot_below k c.args.card c.loop-i.i race.shaped c.requires.card c.loop-i-test.true in
    let same = ap (λ r. r.start.words) c.see-word.ensures.same in
    let at : get_elem? mid p ≡ some n = c.see-word.ensures.word in
    let was : get_elem? old p ≡ some n = sym (i.moved.words.outside p lt (inr (omega arith))) ∙ at in
    let read : get_or old p 0 ≡ n = reads_as old p n 0 was in
    elim c.if-enters.branch [
      | then-enters w ↦
          let into = c.enters.ensures.0 w.if-enters.true in
          let is : is_into k from p n ≡ true = is_into_of k from p n into.0 into.1 in
          let new = words_of w.move_slot.new.self in
          record {
            moved = subst (λ (s : Writer). Writes c.args.self.now s (λ heap old new. AreMoved heap old new from to (c.args.card * heap.size) (c.loop-i.i + 1))) (sym w.self-is) (writes_next i.moved.race i.moved.reader w.move_slot.ensures (λ moved.
                moved_then k old mid new from to first c.loop-i.i 1 c.requires.apart c.begun.ensures i.moved.words (subst (λ (ws : List ℕ). AreMoved k ws new from to p 1) same (subst (λ (r : ℕ). AreMoved k c.see-word.new.self.start.words new r to p 1) into.1 moved))));
            counted = w.count-is ∙ (ap (λ (x : ℕ). x + 1) i.counted ∙ sym (count_one k old from first c.loop-i.i ∙ ap (λ (b : Bool). into_count k old from first c.loop-i.i + as_number b) (ap (is_into k from p) read ∙ is)));
            few = omega (arith, w.count-is, i.few);
          }
      | else-enters w ↦
          let not_here : is_into k from p n ≡ false = false_from_ne_true _ (λ h. let b = and_parts (crosses k p n) (eqb (region_at k n) from) h in let t = c.enters.ensures.1 (b.0, eqb-true (region_at k n) from b.1) in let f = w.if-enters.false in absurd (cc (t, f))) in
          let step : AreMoved k mid mid from to p 1 = moved_none k mid from to p 1 (λ q m le below inside there.
          let e : q ≡ p = omega (arith, le, below) in
          let one : m ≡ n = some-injective m n (sym there ∙ (ap (λ (j : ℕ). get_elem? mid j) e ∙ at)) in
          (λ j. is_into k from (e j) (one j)) ∙ not_here) in
          record {
            moved = subst (λ (s : Writer). Writes c.args.self.now s (λ heap old new. AreMoved heap old new from to (c.args.card * heap.size) (c.loop-i.i + 1))) (sym w.self-is) (record { race = i.moved.race; reader = i.moved.reader; begun = subst (λ (ws : List ℕ). IsBegun (started k ws)) (sym same) i.moved.begun; words = subst (λ (ws : List ℕ). AreMoved k old ws from to first (c.loop-i.i + 1)) (sym same) (moved_then k old mid mid from to first c.loop-i.i 1 c.requires.apart c.begun.ensures i.moved.words step) });
            counted = w.count-is ∙ (i.counted ∙ sym (count_one k old from first c.loop-i.i ∙ (ap (λ (b : Bool). into_count k old from first c.loop-i.i + as_number b) (ap (is_into k from p) read ∙ not_here) ∙ (let x : ℕ = into_count k old from first c.loop-i.i in let e : x + 0 ≡ x = omega arith in e))));
            few = omega (arith, w.count-is, i.few);
          }
    ]
