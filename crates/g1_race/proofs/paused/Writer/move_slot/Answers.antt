-- The slot's pair is recorded before its word is moved, unless the slot lies in the region that the reference goes to.
use Rattle.std.specs.Prelude.{◌≡◌, ◌≢◌, ◌/◌, ◌<◌, ◌∷◌}
use Rattle.g1_race.specs.{ℕ, List, [], set, true, refl, sym, subst, inl, ⊎_elim, some, get_elem?, RaceShape, IsBegun, slot_card, crosses, region_at, started, AreMoved, is_into, moved_word, Notes, words_of, heap_of}
use Rattle.g1_race.proofs.{notes_same, is_into_of, begun_on, writes_next, moved_crosses, moved_fits, moved_region, moved_slot}
use Rattle.g1_race.proofs.paused.Writer.move_slot.Goals as goal

module _ (k : RaceShape) (old : List ℕ) (p n to : ℕ) (begun : IsBegun (started k old)) (lt : p < k.slots) (low : to < k.regions) (at : get_elem? old p ≡ some n) (across : crosses k p n ≡ true) where
  abbrev Moves : List ℕ → Type 0
  Moves mid = IsBegun (started k (set mid p (moved_word k to n))) × AreMoved k old (set mid p (moved_word k to n)) (region_at k n) to p 1

  into : is_into k (region_at k n) p n ≡ true
  into = is_into_of k (region_at k n) p n across refl

  inside : p / k.span ≡ to → Moves old
  inside e = moved_slot k old old (region_at k n) to p n begun begun [] (notes_same k old old [] refl (λ x i. absurd i)) lt low at into (λ ne. absurd (ne e)) (λ x i. absurd i)

  outside : p / k.span ≢ to → (mid : List ℕ) → IsBegun (started k mid) → Notes k old mid ((slot_card k p, to) ∷ []) → Moves mid
  outside ne mid h notes = moved_slot k old mid (region_at k n) to p n begun h ((slot_card k p, to) ∷ []) notes lt low at into (λ e. inl refl) (λ x. ⊎_elim (λ (e : (slot_card k p, to) ≡ x). (ne, e)) (λ (z : ⊥). absurd z))

pub put-requires-clause-begun : goal.put-requires-clause-begun
put-requires-clause-begun c = (inside (heap_of c.args.self.now) (words_of c.args.self.now) c.args.slot c.args.word c.args.to c.begun.ensures c.requires.slot c.requires.to c.requires.word c.requires.across c.if-slot-shape.true).0

pub returns-then-slot-shape : goal.returns-then-slot-shape
returns-then-slot-shape c = writes_next refl refl c.put.ensures (λ put. subst (λ (ws : List ℕ). AreMoved (heap_of c.args.self.now) (words_of c.args.self.now) ws (region_at (heap_of c.args.self.now) c.args.word) c.args.to c.args.slot 1) (sym put)
    (inside (heap_of c.args.self.now) (words_of c.args.self.now) c.args.slot c.args.word c.args.to c.begun.ensures c.requires.slot c.requires.to c.requires.word c.requires.across c.if-slot-shape.true).1)

pub set_bit-requires-clause-proper : goal.set_bit-requires-clause-proper
set_bit-requires-clause-proper c low =
    let k = heap_of c.args.self.now in
    let shaped = c.begun.ensures.shaped in
    (c.args.slot, moved_word k c.args.to c.args.word, (c.requires.slot, moved_fits k c.args.to c.args.word shaped c.requires.to, moved_crosses k c.args.to c.args.slot c.args.word shaped c.requires.to c.if-slot-shape.false), λ i. (slot_card k c.args.slot, moved_region k c.args.to c.args.word shaped.2 i))

pub put-requires-2-clause-begun : goal.put-requires-2-clause-begun
put-requires-2-clause-begun c = begun_on c.set_bit.ensures.race (outside (heap_of c.args.self.now) (words_of c.args.self.now) c.args.slot c.args.word c.args.to c.begun.ensures c.requires.slot c.requires.to c.requires.word c.requires.across c.if-slot-shape.false (words_of c.set_bit.new.self) c.set_bit.ensures.begun c.set_bit.ensures.words).0

pub returns : goal.returns
returns c = writes_next c.set_bit.ensures.race c.set_bit.ensures.reader c.put-2.ensures (λ put. subst (λ (ws : List ℕ). AreMoved (heap_of c.args.self.now) (words_of c.args.self.now) ws (region_at (heap_of c.args.self.now) c.args.word) c.args.to c.args.slot 1) (sym put)
    (outside (heap_of c.args.self.now) (words_of c.args.self.now) c.args.slot c.args.word c.args.to c.begun.ensures c.requires.slot c.requires.to c.requires.word c.requires.across c.if-slot-shape.false (words_of c.set_bit.new.self) c.set_bit.ensures.begun c.set_bit.ensures.words).1)
