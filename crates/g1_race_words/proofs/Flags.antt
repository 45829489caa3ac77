-- The cards' flags among the words.
use Rattle.std.specs.Prelude.{◌≡◌, ◌+◌, ◌*◌, ◌/◌, ◌<◌, ◌≤◌}
use Rattle.g1_race_words.specs.{◌∙◌, ℕ, suc, List, length, set, sym, subst, arith, mul-add-lt, some, some-injective, ℕ_discrete, get_elem?, set_else, set_here, RaceShape, View, AreFlagged, Flagged, Held, IsFlagged, IsWholeShape, bit_word, flag, flagged_of, mark_word, word_count}
use Rattle.std.proofs.Math.Nat.{mul-suc}
use Rattle.g1_race_words.proofs.Plain.{held_same}
use Rattle.g1_race_words.proofs.PairBits.{card_in_row, with_pair}

-- the flags have room, behind the bits of all pairs

-- a word of a region's row, or of the row of flags
pub word_in_row : (k : RaceShape) (region i : ℕ) → IsWholeShape k → region ≤ k.regions → i < k.row → k.slots + k.cards + (region * k.row + i) < word_count k
word_in_row k region i shaped le lt =
    let r : ℕ = region * k.row in let all : ℕ = k.row * suc k.regions in let pairs : ℕ = k.row * k.regions in let same : ℕ = k.regions * k.row in
    let a : r + i < all = mul-add-lt region k.row i (suc k.regions) (omega (arith, le)) lt in
    let b : all ≡ pairs + k.row = mul-suc k.row k.regions in let e : k.bits ≡ same = shaped.8 in let f : pairs ≡ same = omega arith in
    let goal : k.slots + k.cards + (r + i) < k.slots + k.cards + k.bits + k.row = omega arith in goal

pub bit_below : (k : RaceShape) (x : ℕ × ℕ) → IsWholeShape k → x.0 < k.cards → x.1 ≤ k.regions → bit_word k x < word_count k
bit_below k x shaped low row = word_in_row k x.1 (x.0 / 64) shaped row (card_in_row k x.0 shaped low)

pub flag_card : (k : RaceShape) (c : ℕ) → c < k.cards → c / 8 * 8 < k.cards
flag_card k c lt = omega arith

pub flag_below : (k : RaceShape) (c : ℕ) → IsWholeShape k → c < k.cards → bit_word k (flag k c) < word_count k
flag_below k c shaped lt = bit_below k (flag k c) shaped (flag_card k c lt) (omega arith)

-- the words of slots and marks stay
abbrev pub SameFront : RaceShape → List ℕ → List ℕ → Type 0
SameFront k words new = (i : ℕ) → i < k.slots + k.cards → get_elem? new i ≡ get_elem? words i

-- a pair's bit, or a card's flag, is set
pub front_stays : (k : RaceShape) (words : List ℕ) (x : ℕ × ℕ) → SameFront k words (with_pair k words x)
front_stays k words x i lt = set_else words (bit_word k x) i _ (λ e. let m : ℕ = x.1 * k.row + x.0 / 64 in let f : i ≡ k.slots + k.cards + m = e in absurd (omega arith))

-- no mark is made dirty, and no flag is cleared

abbrev pub NoneDirtied : RaceShape → List ℕ → List ℕ → Type 0
NoneDirtied k words new = (c : ℕ) → c < k.cards → get_elem? new (mark_word k c) ≡ some 1 → get_elem? words (mark_word k c) ≡ some 1

-- a mark is cleaned
pub none_dirtied : (k : RaceShape) (words : List ℕ) (c : ℕ) → mark_word k c < length words → NoneDirtied k words (set words (mark_word k c) 0)
none_dirtied k words c short d below m = pick (ℕ_discrete d c)
  where
    pick : Dec (d ≡ c) → get_elem? words (mark_word k d) ≡ some 1
    pick (yes e) = absurd (let z : 0 ≡ 1 = some-injective 0 1 (sym (set_here words (mark_word k c) 0 short) ∙ subst (λ (x : ℕ). get_elem? (set words (mark_word k c) 0) (mark_word k x) ≡ some 1) e m) in omega arith)
    pick (no ne) = sym (set_else words (mark_word k c) (mark_word k d) 0 (λ x. ne (omega arith))) ∙ m

abbrev pub FlagsStay : RaceShape → List ℕ → List ℕ → Type 0
FlagsStay k words new = (c : ℕ) → IsFlagged k words c → IsFlagged k new c

pub are_flagged : (k : RaceShape) (words new : List ℕ) → NoneDirtied k words new → FlagsStay k words new → AreFlagged k words → AreFlagged k new
are_flagged k words new marks flags h c lt m = flags c (h c lt (marks c lt m))

pub flags_moved : (k : RaceShape) (words new : List ℕ) (views after : List View) → NoneDirtied k words new → FlagsStay k words new → ((c : ℕ) → Held flagged_of after c → Held flagged_of views c) → Flagged k words views → Flagged k new after
flags_moved k words new views after marks flags back h = record {
  marked = are_flagged k words new marks flags h.marked;
  known = λ c b. flags c (h.known c (back c b));
}

pub flags_stay : (k : RaceShape) (words new : List ℕ) (views : List View) (id : ℕ) (v w : View) → get_elem? views id ≡ some v → v.flagged ≡ w.flagged → NoneDirtied k words new → FlagsStay k words new → Flagged k words views → Flagged k new (set views id w)
flags_stay k words new views id v w at same marks flags = flags_moved k words new views (set views id w) marks flags (λ c. (held_same flagged_of views id v w at same c).1)
