-- A store at a pause: first the card, if the store dirties it, and then the slot.
use Rattle.std.specs.Prelude.{◌≡◌, ◌/◌, ◌<◌, ◌≤◌}
use Rattle.g1_race.specs.{Logged, card_below, inl, List, ℕ, Option, set, refl, ap, sym, ◌∙◌, subst, inr, arith, IfSome, slot_count, RaceShape, IsBegun, slot_card, started, word_of, target_of_word, one_word, words_of, heap_of}
use Rattle.g1_layout.specs.Shape as layout
use Rattle.g1_race.specs.declared.race.Race.{Race}
use Rattle.g1_race.proofs.{word_target, word_fits, begun_placed, quiet_marked, quiet_store, dirtied_words, put_words, words_then, begun_on, writes_next, put_rises, rises_then, dirtied_rises, dirtied_here, dirtied_store}
use Rattle.g1_race.proofs.paused.Writer.store_as.Goals as goal

-- slot and target are of the race
record Given (race : Race) (slot : ℕ) (target : Option ℕ) : Type 0 where
  lt : slot < race.shape.slots
  fits : word_of target ≤ race.shape.slots
  back : target_of_word (word_of target) ≡ target

given : (race : Race) (slot : ℕ) (target : Option ℕ) → slot < slot_count race.layout → IfSome target (λ place. place < slot_count race.layout) → Given race slot target
given race slot target low within =
    let slots : race.shape.slots ≡ slot_count race.layout = ap (λ (k : RaceShape). k.slots) race.laid in
    let fits : word_of target ≤ race.shape.slots = omega (arith, slots, word_fits target (slot_count race.layout) within) in
    record { lt = omega (arith, slots, low); fits = fits; back = word_target target (omega (arith, fits, race.shaped.3)) }

same_card : (race : Race) (slot card : ℕ) → card ≡ layout.card_of race.layout slot → card ≡ slot_card race.shape slot
same_card race slot card is = is ∙ ap (λ (k : RaceShape). slot / k.size) (sym race.laid)

pub put-requires-clause-begun : goal.put-requires-clause-begun
put-requires-clause-begun c =
    let race = c.args.self.now.race.now in
    let k = race.shape in
    let words = words_of c.args.self.now in
    let target = c.args.target in
    let g = given race c.args.slot target c.requires.slot c.requires.target in
    let dirty = quiet_marked k race.layout race.laid c.args.slot g.lt target (word_of target) g.back words (λ e. c.in_default.not-Logged (c.requires.kind ∙ e)) in
    subst (λ (ws : List ℕ). IsBegun (started k ws)) (λ i. set words (sym c.number.ensures i) (sym c.word_of-word.ensures i))
    (begun_placed k words c.args.slot (word_of target) g.lt (inl g.fits) (λ across. inr (dirty across)) c.begun.ensures)

pub returns-in_default-clause-words : goal.returns-in_default-clause-words
returns-in_default-clause-words c =
    let words = words_of c.args.self.now in
    writes_next refl refl c.put.ensures (λ put. put_words (heap_of c.args.self.now) words c.args.slot (word_of c.args.target) _ (put ∙ (λ i. set words (c.number.ensures i) (c.word_of-word.ensures i))))

pub returns-in_default-clause-table : goal.returns-in_default-clause-table
returns-in_default-clause-table c =
    let race = c.args.self.now.race.now in
    let words = words_of c.args.self.now in
    let target = c.args.target in
    let g = given race c.args.slot target c.requires.slot c.requires.target in
    let is = c.put.ensures.words ∙ (λ i. set words (c.number.ensures i) (c.word_of-word.ensures i)) in
    (quiet_store race.shape race.layout race.laid c.args.slot g.lt target (word_of target) g.back _ words _ refl is c.begun.ensures c.put.ensures.begun c.args.kind (sym c.requires.kind) c.in_default.not-Logged).1

pub put-requires-2-clause-begun : goal.put-requires-2-clause-begun
put-requires-2-clause-begun c =
    let race = c.args.self.now.race.now in
    let k = race.shape in
    let words = words_of c.dirty.new.self in
    let target = c.args.target in
    let g = given race c.args.slot target c.requires.slot c.requires.target in
    let here = dirtied_here k race.layout race.laid c.args.slot g.lt target (word_of target) g.back _ words c.number-2.result (same_card race c.args.slot c.number-2.result (c.number-2.ensures ∙ c.card_of.ensures.quotient)) c.dirty.ensures.words in
    begun_on c.dirty.ensures.race (subst (λ (ws : List ℕ). IsBegun (started k ws)) (λ i. set words (sym c.number.ensures i) (sym c.word_of-word.ensures i))
    (begun_placed k words c.args.slot (word_of target) g.lt (inl g.fits) (λ across. inr here) c.dirty.ensures.begun))

pub returns-clause-words : goal.returns-clause-words
returns-clause-words c =
    let k = heap_of c.args.self.now in
    let words = words_of c.dirty.new.self in
    let word = word_of c.args.target in
    writes_next c.dirty.ensures.race c.dirty.ensures.reader c.put-2.ensures (λ put. words_then k (one_word c.args.slot word) _ words _ (dirtied_words k _ words c.number-2.result c.dirty.ensures.words)
    (put_words k words c.args.slot word _ (put ∙ (λ i. set words (c.number.ensures i) (c.word_of-word.ensures i)))))

pub returns-clause-table : goal.returns-clause-table
returns-clause-table c =
    let race = c.args.self.now.race.now in
    let words = words_of c.dirty.new.self in
    let target = c.args.target in
    let g = given race c.args.slot target c.requires.slot c.requires.target in
    let is = c.put-2.ensures.words ∙ (λ i. set words (c.number.ensures i) (c.word_of-word.ensures i)) in
    dirtied_store race.shape race.layout race.laid c.args.slot g.lt target (word_of target) g.back (words_of c.args.self.now) words _ c.number-2.result (same_card race c.args.slot c.number-2.result (c.number-2.ensures ∙ c.card_of.ensures.quotient)) c.dirty.ensures.words
    (sym c.requires.kind ∙ c.in-Logged.is) is (begun_on (sym c.dirty.ensures.race) c.put-2.ensures.begun)

pub returns-in_default-clause-flags : goal.returns-in_default-clause-flags
returns-in_default-clause-flags c =
    let k = heap_of c.args.self.now in
    let g = given c.args.self.now.race.now c.args.slot c.args.target c.requires.slot c.requires.target in
    put_rises k (λ card. (c.args.kind ≡ Logged) × (card ≡ slot_card k c.args.slot)) (words_of c.args.self.now) (words_of c.put.new.self) c.args.slot (word_of c.args.target) (let lt = g.lt in omega (arith, lt))
    (c.put.ensures.words ∙ (λ i. set (words_of c.args.self.now) (c.number.ensures i) (c.word_of-word.ensures i)))

pub returns-clause-flags : goal.returns-clause-flags
returns-clause-flags c =
    let race = c.args.self.now.race.now in
    let k = race.shape in
    let g = given race c.args.slot c.args.target c.requires.slot c.requires.target in
    let card : c.number-2.result ≡ slot_card k c.args.slot = same_card race c.args.slot c.number-2.result (c.number-2.ensures ∙ c.card_of.ensures.quotient) in
    let Stored = λ (card : ℕ). (c.args.kind ≡ Logged) × (card ≡ slot_card k c.args.slot) in
    rises_then k (λ (d : ℕ). d ≡ c.number-2.result) Stored Stored (words_of c.args.self.now) (words_of c.dirty.new.self) (words_of c.put-2.new.self) (λ d e. (c.in-Logged.is, e ∙ card)) (λ d e. e)
    (dirtied_rises k (words_of c.args.self.now) (words_of c.dirty.new.self) c.number-2.result (subst (λ (d : ℕ). d < k.cards) (sym card) (card_below k c.args.slot race.shaped g.lt)) c.dirty.ensures.words)
    (put_rises k Stored (words_of c.dirty.new.self) (words_of c.put-2.new.self) c.args.slot (word_of c.args.target) (let lt = g.lt in omega (arith, lt)) (c.put-2.ensures.words ∙ (λ i. set (words_of c.dirty.new.self) (c.number.ensures i) (c.word_of-word.ensures i))))
