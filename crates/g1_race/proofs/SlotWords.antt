-- What the calls of a pause make of the slots' words, and a range of slots that is copied.
use Rattle.std.specs.Prelude.{◌≡◌, ◌≢◌, ◌⊎◌, ◌+◌, ◌*◌, ◌/◌, ◌%◌, ◌<◌, ◌≤◌}
use Rattle.g1_race.specs.{ℕ, mod-lt, div-add-mod', eqb, List, set, sym, ap, ◌∙◌, subst, inl, inr, arith, eq-eqb, ne_eqb, some, get_elem?, cases_eq, div-mul-add, set_else, set_here, RaceShape, front, mark_word, mark_apart, false_is, true_is, within, WordsBecome, one_word, same_word, wiped_word, AreMovedAway, word_after, IsDirtied, suc, get_or, length, target_of, stored, copied, table_up, table_down, read_at, read_is, Pause, table_at, IsSameRace, SlotsBecome, copied_word, slot_card, FlagsRise, IsCardAmong, RaisesOnly}
use Rattle.std.proofs.lemmas.Bool.Decides.{nat_tests}
use Rattle.g1_race.proofs.FlagWords.{front_at, rises_then}

pub front_words : (k : RaceShape) (old new : List ℕ) → front k new ≡ front k old → WordsBecome same_word k old new
front_words k old new same p n lt at = front_at k old new p same (omega (arith, lt)) ∙ at

set_words : (k : RaceShape) (old : List ℕ) (slot word : ℕ) → WordsBecome (one_word slot word) k old (set old slot word)
set_words k old slot word p n lt at = elim (cases_eq p slot) [
  | inl e ↦ ap (λ (i : ℕ). get_elem? (set old slot word) i) e
      ∙ (set_here old slot word (within old slot n (subst (λ (i : ℕ). get_elem? old i ≡ some n) e at)) ∙ ap (λ (m : ℕ). some m) (sym (true_is (eqb p slot) word n (eq-eqb p slot e))))
  | inr ne ↦ set_else old slot p word ne ∙ (at ∙ ap (λ (m : ℕ). some m) (sym (false_is (eqb p slot) word n (ne_eqb p slot ne))))
]

pub put_words : (k : RaceShape) (old : List ℕ) (slot word : ℕ) (new : List ℕ) → new ≡ set old slot word → WordsBecome (one_word slot word) k old new
put_words k old slot word new e = subst (λ (ws : List ℕ). WordsBecome (one_word slot word) k old ws) (sym e) (set_words k old slot word)

-- a slot of another region lies before this one's or behind them
beside_span : (k : RaceShape) (r p : ℕ) → p / k.span ≢ r → (p < r * k.span) ⊎ (r * k.span + k.span ≤ p)
beside_span k r p ne = grind (arith, div-mul-add)

pub wiped_words : (k : RaceShape) (old new : List ℕ) (r : ℕ) → 0 < k.span → ((i : ℕ) → i < k.span → get_elem? new (r * k.span + i) ≡ some 0)
    → ((p : ℕ) → (p < r * k.span) ⊎ (r * k.span + k.span ≤ p) → get_elem? new p ≡ get_elem? old p) → WordsBecome (wiped_word k r) k old new
wiped_words k old new r pos null other p n lt at = elim (cases_eq (p / k.span) r) [
  | inl e ↦ subst (λ (q : ℕ). get_elem? new q ≡ some 0) (ap (λ (m : ℕ). m * k.span + p % k.span) (sym e) ∙ div-add-mod' p k.span) (null (p % k.span) (mod-lt p pos))
      ∙ ap (λ (m : ℕ). some m) (sym (true_is (eqb (p / k.span) r) 0 n (eq-eqb (p / k.span) r e)))
  | inr ne ↦ other p (beside_span k r p ne) ∙ (at ∙ ap (λ (m : ℕ). some m) (sym (false_is (eqb (p / k.span) r) 0 n (ne_eqb (p / k.span) r ne))))
]

pub dirtied_words : (k : RaceShape) (old new : List ℕ) (card : ℕ) → IsDirtied k old new card → WordsBecome same_word k old new
dirtied_words k old new card d p n lt at = ap (λ (ws : List ℕ). get_elem? ws p) d.marked
    ∙ (set_else d.mid (mark_word k card) p 1 (λ e. mark_apart k p card lt (sym e)) ∙ (d.flagged.front p (omega (arith, lt)) ∙ at))

pub words_then : (k : RaceShape) (change : ℕ → ℕ → ℕ) (old mid new : List ℕ) → WordsBecome same_word k old mid → WordsBecome change k mid new → WordsBecome change k old new
words_then k change old mid new a b p n lt at = b p n lt (a p n lt at)

pub moved_words : (k : RaceShape) (old new : List ℕ) (from to : ℕ) → AreMovedAway k old new from to → WordsBecome (word_after k from to) k old new
moved_words k old new from to away p n lt at = front_words k away.between new away.emptied.front p (word_after k from to p n) lt (away.moved.moved p n (omega arith) (omega (arith, lt)) lt at)

-- as many slots are copied so far
pub record Copied (old new : Pause) (from to count : ℕ) : Type 0 where
  pub race : IsSameRace old new
  pub words : SlotsBecome (copied_word old.words from to count) old new
  pub table : table_at new ≡ copied from to count (table_at old)
  pub flags : FlagsRise (IsCardAmong old.shape to count) old new

-- one slot is copied
pub record CopiesOne (old new : Pause) (from to : ℕ) : Type 0 where
  pub race : IsSameRace old new
  pub words : SlotsBecome (one_word to (get_or old.words from 0)) old new
  pub table : table_at new ≡ stored (table_at old) to (target_of (table_at old) from)
  pub flags : FlagsRise (λ card. card ≡ slot_card old.shape to) old new

pub race_then : (old mid new : Pause) → IsSameRace old mid → IsSameRace mid new → IsSameRace old new
race_then old mid new a b = record {
  layout = b.layout ∙ a.layout;
  shape = b.shape ∙ a.shape;
  address = b.address ∙ a.address;
  table_id = b.table_id ∙ a.table_id;
  racers = b.racers ∙ a.racers;
  sweepers = b.sweepers ∙ a.sweepers;
  logs = b.logs ∙ a.logs;
}

module _ (old mid new : Pause) (full : old.shape.slots ≤ length old.words) where
  -- a slot outside the range still has its word
  read_before : (from to count p : ℕ) → Copied old mid from to count → p < old.shape.slots → (p < to) ⊎ (to + count ≤ p) → get_or mid.words p 0 ≡ get_or old.words p 0
  read_before from to count p so lt out =
      let n : ℕ = get_or old.words p 0 in
      read_is mid.words p n (so.words p n lt (read_at old.words p (omega (arith, lt, full))) ∙ ap (λ (m : ℕ). some m) (let e : copied_word old.words from to count p n ≡ n = grind (arith, nat_tests) in e))

  word_by_word : (change last : ℕ → ℕ → ℕ) (slot word : ℕ) → mid.shape ≡ old.shape → SlotsBecome change old mid → SlotsBecome (one_word slot word) mid new
      → ((n : ℕ) → word ≡ last slot n) → ((p n : ℕ) → p ≢ slot → change p n ≡ last p n) → SlotsBecome last old new
  word_by_word change last slot word same a b here other p n lt at =
      b p (change p n) (subst (λ (k : RaceShape). p < k.slots) (sym same) lt) (a p n lt at) ∙ ap (λ (m : ℕ). some m) (elim (cases_eq p slot) [
        | inl e ↦ true_is (eqb p slot) word (change p n) (eq-eqb p slot e) ∙ (here n ∙ ap (λ (q : ℕ). last q n) (sym e))
        | inr ne ↦ false_is (eqb p slot) word (change p n) (ne_eqb p slot ne) ∙ other p n ne
      ])

  rise_next : (first all count more slot : ℕ) → mid.shape ≡ old.shape → ((s : ℕ) → first ≤ s → s < first + count → (all ≤ s) × (s < all + more)) → (all ≤ slot) × (slot < all + more)
      → FlagsRise (IsCardAmong old.shape first count) old mid → FlagsRise (λ card. card ≡ slot_card mid.shape slot) mid new → FlagsRise (IsCardAmong old.shape all more) old new
  rise_next first all count more slot same within here a b = rises_then old.shape (IsCardAmong old.shape first count) (λ card. card ≡ slot_card old.shape slot) (IsCardAmong old.shape all more) old.words mid.words new.words
      (λ c s. (s.0, (within s.0 s.1 s.2).0, (within s.0 s.1 s.2).1, s.3)) (λ c e. (slot, here.0, here.1, e)) a
      (subst (λ (k : RaceShape). RaisesOnly (λ card. card ≡ slot_card k slot) k mid.words new.words) same b)

  -- the next slot behind those that are copied
  pub copied_up : (from to count : ℕ) → to ≤ from → from + count < old.shape.slots → Copied old mid from to count → CopiesOne mid new (from + count) (to + count) → Copied old new from to (suc count)
  copied_up from to count le lt so one = record {
    race = race_then old mid new so.race one.race;
    words = word_by_word (copied_word old.words from to count) (copied_word old.words from to (suc count)) (to + count) (get_or mid.words (from + count) 0) so.race.shape so.words one.words
        (λ n. read_before from to count (from + count) so lt (inr (omega (arith, le))) ∙ (let e : get_or old.words (from + count) 0 ≡ copied_word old.words from to (suc count) (to + count) n = grind (arith, nat_tests) in e))
        (λ p n ne. grind (arith, nat_tests));
    flags = rise_next to to count (suc count) (to + count) so.race.shape (λ s le lt. (le, omega (arith, lt))) (omega arith, omega arith) so.flags one.flags;
    table = table_up (table_at old) (table_at mid) (table_at new) from to count le so.table one.table;
  }

  -- the slot before those that are copied
  pub copied_down : (from to count : ℕ) → from < to → from < old.shape.slots → Copied old mid (suc from) (suc to) count → CopiesOne mid new from to → Copied old new from to (suc count)
  copied_down from to count less lt so one = record {
    race = race_then old mid new so.race one.race;
    words = word_by_word (copied_word old.words (suc from) (suc to) count) (copied_word old.words from to (suc count)) to (get_or mid.words from 0) so.race.shape so.words one.words
        (λ n. read_before (suc from) (suc to) count from so lt (inl (omega (arith, less))) ∙ (let e : get_or old.words from 0 ≡ copied_word old.words from to (suc count) to n = grind (arith, nat_tests) in e))
        (λ p n ne. grind (arith, nat_tests));
    flags = rise_next (suc to) to count (suc count) to so.race.shape (λ s le lt. (omega (arith, le), omega (arith, lt))) (omega arith, omega arith) so.flags one.flags;
    table = table_down (table_at old) (table_at mid) (table_at new) from to count less so.table one.table;
  }
