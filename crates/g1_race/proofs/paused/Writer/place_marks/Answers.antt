-- The cards before the one that is looked at are dirty where they are pending.
use Rattle.std.specs.Prelude.{◌≡◌, ◌+◌, ◌≤◌}
use Rattle.g1_race.specs.{ℕ, List, sym, ap, ◌∙◌, subst, arith, AreMarked, IsDirtied, IsPending, RaisesOnly, words_of, Writes, heap_of}
use Rattle.std.specs.FinSet as set_of
use Rattle.g1_race.proofs.{marked_flag, mark_next, marked_past, by_race, writes_next, rises_then, dirtied_rises}
use Rattle.g1_race.proofs.paused.Writer.place_marks.Goals.{then-is_pending, else-is_pending}
use Rattle.g1_race.specs.declared.paused.Writer.{Writer}
use Rattle.g1_race.proofs.paused.Writer.place_marks.Goals as goal

pub loop-number-preserved : goal.loop-number-preserved
loop-number-preserved c =
    let k = heap_of c.args.self.now in
    let t = c.args.core.now.state.table in
    let i = c.loop-number.invariant in
    let old = words_of c.args.self.now in
    let n = c.loop-number.number in
    let flag = c.is_pending.ensures.did.told.pending ∙ ap (λ (x : ℕ). set_of.contains t.pending x) c.in-Some.ensures.1 in
    let done = λ (s : Writer). record { below : n + 1 ≤ k.cards; flags : RaisesOnly (IsPending t) k old (words_of s); marks : Writes c.args.self.now s (λ heap old new. AreMarked heap t old new (n + 1)) } in
    elim c.if-is_pending.branch [
      | then-is_pending w ↦ subst done (sym w.self-is) (record {
        below = omega (arith, c.loop-number-test.true);
        flags = rises_then k (IsPending t) (λ d. d ≡ n) (IsPending t) old (words_of c.loop-number.self) (words_of w.dirty.new.self) (λ d p. p) (λ d e. subst (IsPending t) (sym e) (sym flag ∙ w.if-is_pending.true)) i.flags
            (dirtied_rises k (words_of c.loop-number.self) (words_of w.dirty.new.self) n c.loop-number-test.true (by_race (λ heap. IsDirtied heap (words_of c.loop-number.self) (words_of w.dirty.new.self) n) (sym i.marks.race) w.dirty.ensures.words));
        marks = writes_next i.marks.race i.marks.reader w.dirty.ensures (λ d. subst (λ (l : List ℕ). AreMarked k t old l (n + 1)) (sym d.marked) (mark_next k t old d.mid n c.loop-number-test.true (omega (arith, d.begun.sized)) (sym flag ∙ w.if-is_pending.true) (marked_flag k t old (words_of c.loop-number.self) d.mid n n d.flagged i.marks.words)));
      })
      | else-is_pending w ↦ subst done (sym w.self-is) (record {
        below = omega (arith, c.loop-number-test.true);
        flags = i.flags;
        marks = record { race = i.marks.race; reader = i.marks.reader; begun = i.marks.begun; words = marked_past k t old (words_of c.loop-number.self) n c.loop-number-test.true (c.requires.clean n c.loop-number-test.true) (sym flag ∙ w.if-is_pending.false) i.marks.words };
      })
    ]
