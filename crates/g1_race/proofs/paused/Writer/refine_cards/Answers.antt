-- The cards before the one that is looked at are refined, and at the end the flags are cleared.
use Rattle.g1_race.specs.{ℕ, List, sym, ap, subst, arith, mark_word, IsEmptied, AreRefined, RefinesCard, never_both, words_of, Into, IsBegun, started, heap_of, IsClean, Known}
use Rattle.g1_race.proofs.{none_behind, marked_word, unmarked_word, refined_next, refined_past, refined_emptied, writes_next, by_race}
use Rattle.g1_race.proofs.paused.Writer.refine_cards.Goals.{In_default}
use Rattle.g1_race.proofs.paused.Writer.refine_cards.Goals as goal

pub loop-card-preserved : goal.loop-card-preserved
loop-card-preserved c =
    let k = heap_of c.args.self.now in
    let i = c.loop-card.invariant in
    let old = words_of c.args.self.now in let n = c.in-Some.card in let mid = words_of c.loop-card.self in let new = words_of c.refine_card.new.self in
    let next = c.in-Some.ensures.next in
    let same = ap (λ r. r.start.words) c.next_marked.ensures.same in
    record {
      within = omega (arith, next.1);
      refined = writes_next i.refined.race i.refined.reader c.refine_card.ensures (λ refines. refined_next k old mid new n next.1 (marked_word k mid n i.refined.begun next.1 next.2)
          (refined_past k old mid c.loop-card.from n i.refined.begun next.0 (λ d le lt below at. unmarked_word k mid d (next.3 d le lt) at) i.refined.words)
          (subst (λ (l : List ℕ). RefinesCard k l new n) same refines));
    }

pub empty_row-requires-clause-none : goal.empty_row-requires-clause-none
empty_row-requires-clause-none c p =
    let heap = heap_of c.args.self.now in
    let refined = c.loop-card.invariant.refined in
    by_race (λ k. Into k c.next_marked.new.self.start.words heap.regions p → ⊥) refined.race (none_behind heap _ p (subst (λ (r : Known). IsBegun (started heap r.start.words)) (sym c.next_marked.ensures.same) refined.begun))

-- no card is left that is dirty
all : (c : In_default) → AreRefined (heap_of c.args.self.now) (words_of c.args.self.now) (words_of c.loop-card.self) (heap_of c.args.self.now).cards
all c =
    let k = heap_of c.args.self.now in
    let mid = words_of c.loop-card.self in
    let i = c.loop-card.invariant in
    refined_past k (words_of c.args.self.now) mid c.loop-card.from k.cards i.refined.begun i.within (λ d le lt below at. unmarked_word k mid d (c.in_default.ensures.next d le lt) at) i.refined.words

pub empty_row-requires-clause-clean : goal.empty_row-requires-clause-clean
empty_row-requires-clause-clean c e =
    by_race (λ k. IsClean k c.next_marked.new.self.start.words) c.loop-card.invariant.refined.race (subst (λ (r : Known). IsClean (heap_of c.args.self.now) r.start.words) (sym c.next_marked.ensures.same) (λ d lt.
    never_both (words_of c.loop-card.self) (mark_word (heap_of c.args.self.now) d) ((all ((goal.at.empty_row-requires-clause-clean c).In_default)).clean d lt lt)))

pub returns-clause-refined : goal.returns-clause-refined
returns-clause-refined c =
    let k = heap_of c.args.self.now in let new = words_of c.empty_row.new.self in
    writes_next c.loop-card.invariant.refined.race c.loop-card.invariant.refined.reader c.empty_row.ensures (λ emptied.
    refined_emptied k (words_of c.args.self.now) (words_of c.loop-card.self) new k.cards (all ((goal.at.returns-clause-refined c).In_default)) (subst (λ (l : List ℕ). IsEmptied k l new k.regions k.row) (ap (λ r. r.start.words) c.next_marked.ensures.same) emptied))
