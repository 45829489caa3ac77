-- The slots of the cards before the one that is looked at are moved.
use Rattle.std.specs.Prelude.{◌≡◌, ◌*◌, ◌≤◌}
use Rattle.g1_race.specs.{ℕ, List, into_count, sym, ap, subst, arith, Into, AreMoved, words_of, IsEmptied, heap_of, Known}
use Rattle.g1_race.proofs.{none_moved, on_card, passed, writes_next, by_race}
use Rattle.g1_race.proofs.paused.Writer.move_references.Goals.{In_default}
use Rattle.g1_race.proofs.paused.Writer.move_references.Goals as goal

pub loop-card-preserved : goal.loop-card-preserved
loop-card-preserved c =
    let i = c.loop-card.invariant in
    let next = c.in-Some.ensures.next in
    let k = heap_of c.args.self.now in let moves = c.move_on-count.ensures in
    let seen = c.next_in_row.new.self.start.words in
    let moved = by_race (λ k. AreMoved k seen (words_of c.move_on-count.new.self) c.args.from c.args.to (c.in-Some.card * k.size) k.size × (c.move_on-count.result ≡ into_count k seen c.args.from (c.in-Some.card * k.size) k.size) × (c.move_on-count.result ≤ k.size)) (sym i.moved.race) (moves.moved.words, moves.count, moves.few) in
    let step = on_card k (words_of c.args.self.now) (words_of c.loop-card.self) c.args.from c.args.to c.loop-card.next c.in-Some.card c.begun.ensures c.requires.apart next.0 (omega (arith, next.1)) c.requires.clean i.moved.words next.3
    _ (words_of c.move_on-count.new.self) c.loop-card.count c.move_on-count.result (ap (λ r. r.start.words) c.next_in_row.ensures.same) next.1 i.counted i.few moved.0 moved.1 moved.2 in
    record { within = omega (arith, next.1); moved = writes_next i.moved.race i.moved.reader moves.moved (λ now. step.0); counted = step.1; few = step.2 }

-- no card is left that holds into the region
all : (c : In_default) → AreMoved (heap_of c.args.self.now) (words_of c.args.self.now) (words_of c.loop-card.self) c.args.from c.args.to 0 (heap_of c.args.self.now).slots
all c =
    let race = c.args.self.now.race.now in
    let i = c.loop-card.invariant in
    subst (λ (n : ℕ). AreMoved race.shape (words_of c.args.self.now) (words_of c.loop-card.self) c.args.from c.args.to 0 n) (sym race.shaped.0)
    (passed race.shape (words_of c.args.self.now) (words_of c.loop-card.self) c.args.from c.args.to c.loop-card.next race.shape.cards c.begun.ensures c.requires.apart i.within (omega arith) c.requires.clean i.moved.words c.in_default.ensures.next)

pub empty_row-requires-clause-none : goal.empty_row-requires-clause-none
empty_row-requires-clause-none c =
    let k = heap_of c.args.self.now in
    by_race (λ k. (p : ℕ) → Into k c.next_in_row.new.self.start.words c.args.from p → ⊥) c.loop-card.invariant.moved.race
    (λ p x. none_moved k (words_of c.args.self.now) (words_of c.loop-card.self) c.args.from c.args.to p c.begun.ensures c.requires.apart (all ((goal.at.empty_row-requires-clause-none c).In_default))
    (subst (λ (r : Known). Into k r.start.words c.args.from p) c.next_in_row.ensures.same x))

pub returns-clause-moved : goal.returns-clause-moved
returns-clause-moved c =
    let k = heap_of c.args.self.now in let moved = c.loop-card.invariant.moved in
    writes_next moved.race moved.reader c.empty_row.ensures (λ emptied. record { between = words_of c.loop-card.self; begun = moved.begun; moved = all ((goal.at.returns-clause-moved c).In_default); emptied = subst (λ (ws : List ℕ). IsEmptied k ws (words_of c.empty_row.new.self) c.args.from k.row) (ap (λ r. r.start.words) c.next_in_row.ensures.same) emptied })
