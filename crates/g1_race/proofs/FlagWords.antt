-- The cards' flags at a pause, and what its calls do to them.
use Rattle.std.specs.Prelude.{◌≡◌, ◌≢◌, ◌+◌, ◌*◌, ◌/◌, ◌%◌, ◌<◌, ◌≤◌, ◌++◌, ◌∷◌}
use Rattle.g1_race.specs.{cases_eq, ℕ, zero, suc, List, [], Option, false, Some, None, refl, sym, ap, ◌∙◌, subst, inl, inr, ⊎_elim, arith, eq-eqb, some, get_elem?, bit_at, slice_index, cases_Bool, cases_lt, true≢false, RaceShape, HasBit, In, IsBegun, IsPair, IsWholeShape, bit_index, bit_word, flag, front, mark_word, pairs_of_card, pairs_up_to, started, ended, IsEmptied, AreRefined, AreUnflagged, Notes, Acquires, AreMovedAway, IfSome, IsFlaggedFrom, IsNext, SkipsNone, is_marked, is_member, flag_card, card_in_row, one_pair, pair_clear, pair_set, take_at, take_same, get_or, set, IsFlagged, bit_as, same_bits, IsDirtied, RaisesOnly, AreFlagsOf, IsPending, Table, zeros, zeros_read, no_bit}
use Rattle.g1_layout.specs.Shape as layout
use Rattle.g1_race.proofs.NextCards.{mark_is, mark_is_not, marked_word}

-- a card whose flag is clear is clean
unflagged_clean : (k : RaceShape) (words : List ℕ) (c : ℕ) → IsBegun (started k words) → c < k.cards → is_member k words k.regions (c / 8 * 8) ≡ false → is_marked k words c ≡ false
unflagged_clean k words c h lt e = elim (cases_Bool (is_marked k words c)) [
  | inl m ↦ absurd (true≢false (sym (eq-eqb _ 1 (h.flagged c lt (marked_word k words c h lt m))) ∙ e))
  | inr m ↦ m
]

-- where flags are passed over that are clear, no dirty card is
pub skips_none : (k : RaceShape) (words : List ℕ) (from : ℕ) (found : Option ℕ) → IsBegun (started k words) → from % 8 ≡ 0 → IsNext (is_member k words k.regions) k.cards from found → SkipsNone (is_marked k words) k.cards from found
skips_none k words from None h first none = λ c le lt. unflagged_clean k words c h lt (none (c / 8 * 8) (omega (arith, le, first)) (omega (arith, lt)))
skips_none k words from (Some card) h first is = (is.0, is.1, λ c le lt. unflagged_clean k words c h (omega (arith, lt, is.1)) (is.3 (c / 8 * 8) (omega (arith, le, first)) (omega (arith, lt))))

pub flagged_from : (k : RaceShape) (words : List ℕ) (from : ℕ) (found : Option ℕ) → from % 8 ≡ 0 → IsNext (is_member k words k.regions) k.cards from found → IfSome found (IsFlaggedFrom k words from)
flagged_from k words from None first none = tt
flagged_from k words from (Some card) first is = (λ e. is.2, λ ne. absurd (ne first))

-- from one such card to the next

abbrev NoneDirty : RaceShape → List ℕ → ℕ → ℕ → Type 0
NoneDirty k words from end = (c : ℕ) → from ≤ c → c < end → c < k.cards → is_marked k words c ≡ false

module _ (k : RaceShape) {words read : List ℕ} (from next : ℕ) (same : read ≡ words) (none : NoneDirty k words from next) where
  none_until : (end : ℕ) → ((c : ℕ) → next ≤ c → c < end → is_marked k read c ≡ false) → NoneDirty k words from end
  none_until end skips c le lt below = elim (cases_lt c next) [
    | inl low ↦ none c le low below
    | inr high ↦ ap (λ (l : List ℕ). is_marked k l c) (sym same) ∙ skips c high lt
  ]

  module _ (card n : ℕ) (skips : SkipsNone (is_marked k read) k.cards next (Some card)) (at : get_elem? read (mark_word k card) ≡ some n) where
    pub marked_next : from ≤ next → n ≡ 1 → IsNext (is_marked k words) k.cards from (Some card)
    marked_next past one = (omega (arith, past, skips.0), skips.1, ap (λ (l : List ℕ). is_marked k l card) (sym same) ∙ mark_is k read card n at one, λ c le lt. none_until card skips.2 c le lt (omega (arith, lt, skips.1)))

    pub clean_past : n ≢ 1 → NoneDirty k words from (card + 1)
    clean_past ne c le lt below = elim (cases_lt c card) [
      | inl low ↦ none_until card skips.2 c le low below
      | inr high ↦ subst (λ (x : ℕ). is_marked k words x ≡ false) (let e : card ≡ c = omega (arith, high, lt) in e) (ap (λ (l : List ℕ). is_marked k l card) (sym same) ∙ mark_is_not k read card n at ne)
    ]

-- a flag is no pair's bit
pub flag_only : (k : RaceShape) (old new : List ℕ) (c : ℕ) → Notes k old new (flag k c ∷ []) → (x : ℕ × ℕ) → IsPair k x → HasBit k new x → HasBit k old x
flag_only k old new c notes x pair b = ⊎_elim (λ (o : HasBit k old x). o) (λ (i : In (flag k c ∷ []) x). absurd (apart i)) (notes.only x pair.0 b)
  where
    apart : In (flag k c ∷ []) x → ⊥
    apart (inl e) = absurd (let r : k.regions ≡ x.1 = ap (λ (y : ℕ × ℕ). y.1) e in let lt : x.1 < k.regions = pair.1 in omega (arith, r, lt))
    apart (inr n) = n

-- words with the same bits of pairs have the same pairs
module _ (k : RaceShape) (old new : List ℕ) (on : (x : ℕ × ℕ) → IsPair k x → HasBit k old x → HasBit k new x) (back : (x : ℕ × ℕ) → IsPair k x → HasBit k new x → HasBit k old x) where
  one_same : (x : ℕ × ℕ) → IsPair k x → one_pair k new x ≡ one_pair k old x
  one_same x pair = elim (cases_eq (bit_at (slice_index old (bit_word k x)) (bit_index k x)) 1) [
    | inl b ↦ pair_set k new x (on x pair b) ∙ sym (pair_set k old x b)
    | inr ne ↦ pair_clear k new x (λ b. ne (back x pair b)) ∙ sym (pair_clear k old x ne)
  ]

  card_same : (c r : ℕ) → c < k.cards → r ≤ k.regions → pairs_of_card k new c r ≡ pairs_of_card k old c r
  card_same c zero lt le = λ i. []
  card_same c (suc r) lt le = let a = card_same c r lt (omega (arith, le)) in let b = one_same (c, r) (lt, omega (arith, le)) in λ i. a i ++ b i

  up_same : (c : ℕ) → c ≤ k.cards → pairs_up_to k new c ≡ pairs_up_to k old c
  up_same zero le = λ i. []
  up_same (suc c) le = let a = up_same c (omega (arith, le)) in let b = card_same c k.regions (omega (arith, le)) (omega arith) in λ i. a i ++ b i

  pub pairs_same : pairs_up_to k new k.cards ≡ pairs_up_to k old k.cards
  pairs_same = up_same k.cards (omega arith)

-- a flag changes nothing of the heap
pub flag_ended : (k : RaceShape) (l : layout.Shape) (old new : List ℕ) (c : ℕ) → Notes k old new (flag k c ∷ []) → ended l k new ≡ ended l k old
flag_ended k l old new c notes =
    let words = take_same new old (k.slots + k.cards) notes.front in
    let pairs = pairs_same k old new (λ x pair b. notes.kept x b) (flag_only k old new c notes) in
    λ i. record { layout = l; words = words i; pairs = pairs i }

-- a word of the front, where the front has not changed
pub front_at : (k : RaceShape) (old new : List ℕ) (i : ℕ) → front k new ≡ front k old → i < k.slots + k.cards → get_elem? new i ≡ get_elem? old i
front_at k old new i same lt = sym (take_at new (k.slots + k.cards) i lt) ∙ (ap (λ (l : List ℕ). get_elem? l i) same ∙ take_at old (k.slots + k.cards) i lt)

-- the flags are cleared then
pub unflagged : (k : RaceShape) (old new : List ℕ) → IsWholeShape k → IsEmptied k old new k.regions k.row → AreUnflagged k new
unflagged k old new shaped g c lt = g.clear (flag k c) (flag_card k c lt) refl (card_in_row k (c / 8 * 8) shaped (flag_card k c lt))

-- and stay so where references are moved
pub still_unflagged : (k : RaceShape) (old new : List ℕ) (from to : ℕ) → to < k.regions → AreMovedAway k old new from to → AreUnflagged k old → AreUnflagged k new
still_unflagged k old new from to low away none c lt b =
    let card = flag_card k c lt in ⊎_elim
    (λ (u : HasBit k old (flag k c)). none c lt u)
    (λ (u : Acquires k old from to (flag k c)). absurd (let e : to ≡ k.regions = ap (λ (y : ℕ × ℕ). y.1) u.6 in omega (arith, e, low)))
    (away.moved.only (flag k c) card (away.emptied.only (flag k c) card b))

pub refined_emptied : (k : RaceShape) (old mid new : List ℕ) (n : ℕ) → AreRefined k old mid n → IsEmptied k mid new k.regions k.row → AreRefined k old new n
refined_emptied k old mid new n h g = record {
  slots = λ p lt. front_at k mid new p g.front (omega (arith, lt)) ∙ h.slots p lt;
  clean = λ c up below. front_at k mid new (mark_word k c) g.front (omega (arith, below)) ∙ h.clean c up below;
  marks = λ c up below. front_at k mid new (mark_word k c) g.front (omega (arith, below)) ∙ h.marks c up below;
  kept = λ x pair b. g.kept x pair.0 (λ e. absurd (let lt : x.1 < k.regions = pair.1 in omega (arith, lt, e))) (h.kept x pair b);
  only = λ x card b. h.only x card (g.only x card b);
}

module _ (k : RaceShape) where
  -- no bit is set
  pub none_rises : (IsStored : ℕ → Type 0) (old new : List ℕ) → ((x : ℕ × ℕ) → x.0 < k.cards → HasBit k new x → HasBit k old x) → RaisesOnly IsStored k old new
  none_rises IsStored old new back c lt b = inl (back (flag k c) (flag_card k c lt) b)

  -- a slot or a mark is written
  front_back : (old new : List ℕ) (i n : ℕ) → i < k.slots + k.cards → new ≡ set old i n → (x : ℕ × ℕ) → HasBit k new x → HasBit k old x
  front_back old new i n lt is x b = bit_as k (set old i n) old x (λ y. sym (same_bits k old i n lt y)) (subst (λ (l : List ℕ). HasBit k l x) is b)

  pub put_rises : (IsStored : ℕ → Type 0) (old new : List ℕ) (i n : ℕ) → i < k.slots + k.cards → new ≡ set old i n → RaisesOnly IsStored k old new
  put_rises IsStored old new i n lt is = none_rises IsStored old new (λ x low b. front_back old new i n lt is x b)

  -- bits of pairs are set
  pub notes_rises : (IsStored : ℕ → Type 0) (old new : List ℕ) (pairs : List (ℕ × ℕ)) → ((x : ℕ × ℕ) → In pairs x → x.1 < k.regions) → Notes k old new pairs → RaisesOnly IsStored k old new
  notes_rises IsStored old new pairs within notes c lt b = ⊎_elim
      (λ (o : HasBit k old (flag k c)). inl o)
      (λ (i : In pairs (flag k c)). absurd (let low : k.regions < k.regions = within (flag k c) i in omega (arith, low)))
      (notes.only (flag k c) (flag_card k c lt) b)

  -- one after the other
  pub rises_then : (First Next All : ℕ → Type 0) (old mid new : List ℕ) → ((c : ℕ) → First c → All c) → ((c : ℕ) → Next c → All c) → RaisesOnly First k old mid → RaisesOnly Next k mid new → RaisesOnly All k old new
  rises_then First Next All old mid new first next a b c lt set_then = ⊎_elim
      (λ (m : IsFlagged k mid c). ⊎_elim (λ (o : IsFlagged k old c). inl o) (λ (s : (d : ℕ) × First d × (d / 8 ≡ c / 8)). inr (s.0, first s.0 s.1, s.2)) (a c lt m))
      (λ (s : (d : ℕ) × Next d × (d / 8 ≡ c / 8)). inr (s.0, next s.0 s.1, s.2))
      (b c lt set_then)

  -- a card is dirtied
  pub dirtied_rises : (old new : List ℕ) (card : ℕ) → card < k.cards → IsDirtied k old new card → RaisesOnly (λ c. c ≡ card) k old new
  dirtied_rises old new card low d c lt b = ⊎_elim
      (λ (o : HasBit k old (flag k c)). inl o)
      (λ (i : In (flag k card ∷ []) (flag k c)). inr (card, λ j. card, of i))
      (d.flagged.only (flag k c) (flag_card k c lt) (front_back d.mid new (mark_word k card) 1 (omega (arith, low)) d.marked (flag k c) b))
    where
      of : In (flag k card ∷ []) (flag k c) → card / 8 ≡ c / 8
      of (inl e) = let f : card / 8 * 8 ≡ c / 8 * 8 = ap (λ (y : ℕ × ℕ). y.0) e in omega (arith, f)
      of (inr n) = absurd n

  -- over words that are all 0
  pub flags_of : (t : Table) (count : ℕ) (null marked bits new : List ℕ) → null ≡ zeros count → RaisesOnly (λ c. ⊥) k null marked → RaisesOnly (IsPending t) k marked bits → RaisesOnly (λ c. ⊥) k bits new → AreFlagsOf k t new
  flags_of t count null marked bits new is a b d c lt set_now = ⊎_elim
      (λ (o : IsFlagged k null c). absurd (no_bit k null (flag k c) (ap (λ (l : List ℕ). get_or l (bit_word k (flag k c)) 0) is ∙ zeros_read count (bit_word k (flag k c))) o))
      (λ (s : (e : ℕ) × IsPending t e × (e / 8 ≡ c / 8)). s)
      (rises_then (IsPending t) (λ c. ⊥) (IsPending t) null bits new (λ e i. i) (λ e i. absurd i) (rises_then (λ c. ⊥) (IsPending t) (IsPending t) null marked bits (λ e i. absurd i) (λ e i. i) a b) d c lt set_now)
