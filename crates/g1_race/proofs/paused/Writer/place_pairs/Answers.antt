use Rattle.std.specs.Prelude.{◌≡◌, ◌<◌, ◌∷◌}
use Rattle.g1_race.specs.{ℕ, [], List, length, get_or, take, sym, ap, ◌∙◌, subst, arith, some, get_elem?, IsOfCrossing, Notes, at_read, contains_in, take_next, words_of, IsPair, heap_of}
use Rattle.g1_race.proofs.{notes_then, writes_next, by_race}
use Rattle.g1_race.proofs.paused.Writer.place_pairs.Goals.{After-number}
use Rattle.g1_race.proofs.paused.Writer.place_pairs.Goals as goal

item : (xs : List (ℕ × ℕ)) (i : ℕ) (x : ℕ × ℕ) → i < length xs → x ≡ get_or xs i x → get_elem? xs i ≡ some x
item xs i x lt e = at_read xs i x lt ∙ ap (λ (y : ℕ × ℕ). some y) (sym e)

-- the pair is one of the race, and of a crossing
given : (c : After-number) → IsPair (heap_of c.loop-pair.self) c.pair-item.result × IsOfCrossing (heap_of c.loop-pair.self) c.pair-item.result
given c = let x = c.pair-item.result in by_race (λ k. IsPair k x × IsOfCrossing k x) c.loop-pair.invariant.race (c.requires x (contains_in c.args.pairs.now x (c.loop-pair.pair-index, c.loop-pair-test.true, sym c.pair-item.is)))

pub set_bit-requires-clause-card : goal.set_bit-requires-clause-card
set_bit-requires-clause-card c = omega (arith, c.number.ensures, (given ((goal.at.set_bit-requires-clause-card c).After-number)).0.0)

pub set_bit-requires-clause-row : goal.set_bit-requires-clause-row
set_bit-requires-clause-row c = omega (arith, c.number-in-loop-pair.ensures, (given ((goal.at.set_bit-requires-clause-row c).After-number)).0.1)

pub set_bit-requires-clause-proper : goal.set_bit-requires-clause-proper
set_bit-requires-clause-proper c low = subst (IsOfCrossing (heap_of c.loop-pair.self)) (λ i. (sym c.number.ensures i, sym c.number-in-loop-pair.ensures i)) (given ((goal.at.set_bit-requires-clause-proper c).After-number)).1

pub loop-pair-preserved : goal.loop-pair-preserved
loop-pair-preserved c =
    let k = heap_of c.args.self.now in
    let x = c.pair-item.result in let pairs = c.args.pairs.now in let n = c.loop-pair.pair-index in
    let same : (c.number.result, c.number-in-loop-pair.result) ≡ x = λ i. (c.number.ensures i, c.number-in-loop-pair.ensures i) in
    let old = words_of c.args.self.now in let mid = words_of c.loop-pair.self in let new = words_of c.set_bit.new.self in
    writes_next c.loop-pair.invariant.race c.loop-pair.invariant.reader c.set_bit.ensures (λ now.
    subst (λ (xs : List (ℕ × ℕ)). Notes k old new xs) (sym (take_next pairs n x (item pairs n x c.loop-pair-test.true c.pair-item.is)))
    (notes_then k old mid new (take n pairs) (x ∷ []) c.loop-pair.invariant.words (subst (λ (y : ℕ × ℕ). Notes k mid new (y ∷ [])) same now)))
