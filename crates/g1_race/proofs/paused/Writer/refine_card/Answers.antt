-- The card's slots are noted one after another, and then its mark is cleared.
use Rattle.std.specs.Prelude.{◌≡◌, ◌+◌, ◌*◌, ◌<◌, ◌++◌}
use Rattle.g1_race.specs.{ℕ, suc, List, get_or, sym, ap, ◌∙◌, subst, arith, some, get_elem?, pair_at, Notes, RefinesCard, card_pairs, reads_as, words_of, heap_of}
use Rattle.g1_race.proofs.{slot_below, notes_then, begun_cleaned, refined_is, begun_on, writes_next}
use Rattle.g1_race.proofs.paused.Writer.refine_card.Goals.{After-loop-i, In-loop-i}
use Rattle.g1_race.proofs.paused.Writer.refine_card.Goals as goal

below : (c : In-loop-i) → c.args.card * (heap_of c.args.self.now).size + c.loop-i.i < (heap_of c.args.self.now).slots
below c = slot_below (heap_of c.args.self.now) c.args.card c.loop-i.i c.args.self.now.race.now.shaped c.requires c.loop-i-test.true

pub loop-i-preserved : goal.loop-i-preserved
loop-i-preserved c =
    let k = heap_of c.args.self.now in
    let i = c.loop-i.invariant in
    let old = words_of c.args.self.now in let mid = words_of c.loop-i.self in let new = words_of c.note_slot.new.self in
    let p : ℕ = c.args.card * k.size + c.loop-i.i in
    let lt : p < k.slots = below ((goal.at.loop-i-preserved c).In-loop-i) in
    let same = ap (λ r. r.start.words) c.see-word.ensures.same in
    let word : get_elem? old p ≡ some c.see-word.result = sym (i.notes.words.front p (omega (arith, lt))) ∙ c.see-word.ensures.word in
    let read : c.see-word.result ≡ get_or old p 0 = sym (reads_as old p c.see-word.result 0 word) in
    record {
      notes = writes_next i.notes.race i.notes.reader c.note_slot.ensures (λ step.
          subst (λ (xs : List (ℕ × ℕ)). Notes k old new xs) (ap (λ (n : ℕ). card_pairs k old c.args.card c.loop-i.i ++ pair_at k p n) read ∙ ap (λ (n : ℕ). card_pairs k old c.args.card n) (let e : suc c.loop-i.i ≡ c.loop-i.i + 1 = omega arith in e))
          (notes_then k old mid new (card_pairs k old c.args.card c.loop-i.i) (pair_at k p c.see-word.result) i.notes.words (subst (λ (l : List ℕ). Notes k l new (pair_at k p c.see-word.result)) same step)));
      below = omega (arith, c.loop-i-test.true);
    }

-- all slots are noted
noted : (c : After-loop-i) → Notes (heap_of c.args.self.now) (words_of c.args.self.now) (words_of c.loop-i.self) (card_pairs (heap_of c.args.self.now) (words_of c.args.self.now) c.args.card (heap_of c.args.self.now).size)
noted c = subst (λ (n : ℕ). Notes (heap_of c.args.self.now) (words_of c.args.self.now) (words_of c.loop-i.self) (card_pairs (heap_of c.args.self.now) (words_of c.args.self.now) c.args.card n)) (let e : c.loop-i.i ≡ (heap_of c.args.self.now).size = omega (arith, c.loop-i.invariant.below, c.loop-i-test.false) in e) c.loop-i.invariant.notes.words

pub put-requires-clause-begun : goal.put-requires-clause-begun
put-requires-clause-begun c = let notes = c.loop-i.invariant.notes in
    begun_on notes.race (begun_cleaned (heap_of c.args.self.now) (words_of c.args.self.now) (words_of c.loop-i.self) c.args.card c.begun.ensures notes.begun c.requires (noted ((goal.at.put-requires-clause-begun c).After-loop-i)))

pub returns : goal.returns
returns c = let notes = c.loop-i.invariant.notes in
    writes_next notes.race notes.reader c.put.ensures (λ put. subst (λ (l : List ℕ). RefinesCard (heap_of c.args.self.now) (words_of c.args.self.now) l c.args.card) (sym put)
    (refined_is (heap_of c.args.self.now) (words_of c.args.self.now) (words_of c.loop-i.self) c.args.card c.begun.ensures notes.begun c.requires (noted ((goal.at.returns c).After-loop-i))))
