use Rattle.std.proofs.Common.{rules}
use Rattle.std.specs.Prelude.{◌≡◌, ◌⊎◌, ◌/◌, ◌^◌, ◌<◌}
use Rattle.g1_race.specs.{inl, inr, ⊎_elim, IsFlagged, Logged, FlagsRise, slot_card, ℕ, None, sym, ap, ◌∙◌, subst, arith, some, get_elem?, slot_count, target_of, stored, RaceShape, read_is, shape_of, word_of, Pause, table_at, SlotsBecome, one_word}
use Rattle.g1_race.specs.Over as over
use Rattle.g1_race.proofs.{target_data, target_word, slot_gives, lent_view}
use Rattle.g1_race.proofs.paused.Paused.copy_slot.Goals as goal

abbrev IsLaid : Pause → Type 0
IsLaid pause = pause.shape ≡ shape_of pause.layout pause.shape.parties

-- what the slot refers to
reads : (pause : Pause) → IsLaid pause → (slot word : ℕ) → slot < slot_count pause.layout → get_elem? pause.words slot ≡ some word → target_of (table_at pause) slot ≡ over.target_of_word word
reads pause laid slot word lt at = slot_gives pause.shape pause.layout pause.words slot word laid (let e : pause.shape.slots ≡ slot_count pause.layout = ap (λ (k : RaceShape). k.slots) laid in omega (arith, e, lt)) at

-- the word that is stored is the slot's
stores : (old read new : Pause) (to word stored : ℕ) → read ≡ old → stored ≡ word → SlotsBecome (one_word to stored) read new → SlotsBecome (one_word to word) old new
stores old read new to word stored same is = subst (λ (x : Pause × ℕ). SlotsBecome (one_word to x.1) x.0 new) (λ i. (same i, is i))

pub returns-then-word-clause-table : goal.returns-then-word-clause-table
returns-then-word-clause-table g c =
    let laid : IsLaid c.args.self.now = subst IsLaid (lent_view c.race.ensures c.self.view_is) c.race.result.now.laid in
    let none : target_of (table_at c.args.self.now) c.args.from ≡ None = reads c.args.self.now laid c.args.from c.word-word.result c.requires.from c.word-word.ensures.word ∙ target_data c.word-word.result (omega (arith, c.if-word.true)) in
    c.store_data.ensures.table ∙ (λ i. stored (table_at (c.word-word.ensures.same i)) c.args.to (sym none i))

pub returns-clause-words : goal.returns-clause-words
returns-clause-words g c =
    let low : c.word-word.result < 2 ^ 32 = omega (arith, c.if-word.false) in
    stores c.args.self.now c.word-word.new.self c.store.new.self c.args.to _ (word_of c.refers_to-target.result) c.word-word.ensures.same
    (ap word_of c.refers_to-target.ensures.target ∙ (target_word c.word-word.result low ∙ sym (read_is c.args.self.now.words c.args.from c.word-word.result c.word-word.ensures.word))) c.store.ensures.words

pub returns-clause-table : goal.returns-clause-table
returns-clause-table g c = search (rules, target_of, stored, table_at, lent_view, reads)

-- only the slot's card is raised, or none
raises : (old read new : Pause) (IsStored : ℕ → Type 0) (to : ℕ) → read ≡ old → ((card : ℕ) → IsStored card → card ≡ slot_card read.shape to) → FlagsRise IsStored read new → FlagsRise (λ card. card ≡ slot_card old.shape to) old new
raises old read new IsStored to same one is = subst (λ (h : Pause). FlagsRise (λ card. card ≡ slot_card h.shape to) h new) same (λ c lt b. ⊎_elim (λ (o : IsFlagged read.shape read.words c). inl o) (λ (s : (d : ℕ) × IsStored d × (d / 8 ≡ c / 8)). inr (s.0, one s.0 s.1, s.2)) (is c lt b))

pub returns-then-word-clause-flags : goal.returns-then-word-clause-flags
returns-then-word-clause-flags g c = raises c.args.self.now c.word-word.new.self c.store_data.new.self (λ card. ⊥) c.args.to c.word-word.ensures.same (λ card e. absurd e) c.store_data.ensures.flags

pub returns-clause-flags : goal.returns-clause-flags
returns-clause-flags g c = raises c.args.self.now c.word-word.new.self c.store.new.self (λ card. (c.store.result ≡ Logged) × (card ≡ slot_card c.word-word.new.self.shape c.args.to)) c.args.to c.word-word.ensures.same (λ card e. e.1) c.store.ensures.flags
