-- What refinement at a pause does to the words.
use Rattle.std.specs.Prelude.{◌≡◌, ◌⊎◌, ◌+◌, ◌*◌, ◌%◌, ◌^◌, ◌<◌, ◌≤◌, ◌∷◌, ◌++◌}
use Rattle.g1_race.specs.{ℕ, zero, suc, cond, Bool, true, false, List, [], length, set, get_or, bit_or, length-set, div-add-mod', mod-lt, refl, sym, ap, ◌∙◌, subst, inl, inr, ⊎_elim, arith, some, cases_eq, get_elem?, cases_lt, bit_at, div-mul-add, set_else, set_here, RaceShape, In, IsBegun, IsOfCrossing, HasBit, BeganInto, bit_word, bit_index, flag, mark_word, slot_card, region_at, crosses, started, pair_at, Notes, RefinesCard, AreRefined, card_pairs, in_left, in_right, in_either, true_is, reads_as, word_low, SameBits, same_bits, bit_as, with_pair, bit_here, bits_stay, bits_back, bit_below, front_stays}
use Rattle.g1_race.proofs.AtPause.{begun_front, begun_mark, begun_read, filled_next}
use Rattle.g1_race.proofs.SeatCalls.{slot_below}

-- one bit is set, of a pair or a card's flag

module _ (k : RaceShape) (words : List ℕ) (x : ℕ × ℕ) (h : IsBegun (started k words)) (card : x.0 < k.cards) (row : x.1 ≤ k.regions) where
  short : bit_word k x < length words
  short = subst (λ (n : ℕ). bit_word k x < n) (sym h.sized) (bit_below k x h.shaped card row)

  pub begun_bit : (x.1 < k.regions → IsOfCrossing k x) → IsBegun (started k (with_pair k words x))
  begun_bit of = begun_front k words (with_pair k words x) h (length-set words (bit_word k x) _) (front_stays k words x) (λ p n lt at cr. bits_stay k words x short _)
      (λ y py b. ⊎_elim (λ (c : HasBit k words y). inl c) (λ (e : x ≡ y). inr (subst (IsOfCrossing k) e (of (subst (λ (z : ℕ × ℕ). z.1 < k.regions) (sym e) py.1)))) (bits_back k words x short y h.shaped card py.0 b))
      (λ c lt m. bits_stay k words x short (flag k c))

  pub notes_bit : Notes k words (with_pair k words x) (x ∷ [])
  notes_bit = record {
    front = front_stays k words x;
    kept = λ y b. bits_stay k words x short y b;
    has = λ y i. ⊎_elim (λ (e : x ≡ y). subst (HasBit k (with_pair k words x)) e (bit_here k words x short)) (λ (n : ⊥). absurd n) i;
    only = λ y py b. ⊎_elim (λ (c : HasBit k words y). inl c) (λ (e : x ≡ y). inr (inl e)) (bits_back k words x short y h.shaped card py b);
  }

-- the word as the call writes it, over the words that it read
pub with_found : (k : RaceShape) (words seen : List ℕ) (x : ℕ × ℕ) (at index found : ℕ) → seen ≡ words → at ≡ bit_word k x → index ≡ bit_index k x → get_elem? words at ≡ some found → set seen at (bit_or found (1 * 2 ^ index % 2 ^ 64)) ≡ with_pair k words x
with_found k words seen x at index found same e f there = λ i. set (same i) (e i) (bit_or ((sym (reads_as words at found 0 there) ∙ ap (λ (j : ℕ). get_or words j 0) e) i) (1 * 2 ^ f i % 2 ^ 64))

-- the bit as a word that was read has it
pub bit_read : (k : RaceShape) (words : List ℕ) (x : ℕ × ℕ) (at index found : ℕ) → at ≡ bit_word k x → index ≡ bit_index k x → get_elem? words at ≡ some found → bit_at found index ≡ bit_at (get_or words (bit_word k x) 0) (bit_index k x)
bit_read k words x at index found e f there = λ i. bit_at ((sym (reads_as words at found 0 there) ∙ ap (λ (j : ℕ). get_or words j 0) e) i) (f i)

pub notes_same : (k : RaceShape) (old new : List ℕ) (xs : List (ℕ × ℕ)) → new ≡ old → ((x : ℕ × ℕ) → In xs x → HasBit k old x) → Notes k old new xs
notes_same k old new xs e h = subst (λ (l : List ℕ). Notes k old l xs) (sym e) (record { front = λ i lt. refl; kept = λ x b. b; has = h; only = λ x p b. inl b })

pub notes_then : (k : RaceShape) (a b c : List ℕ) (xs ys : List (ℕ × ℕ)) → Notes k a b xs → Notes k b c ys → Notes k a c (xs ++ ys)
notes_then k a b c xs ys h g = record {
  front = λ i lt. g.front i lt ∙ h.front i lt;
  kept = λ x t. g.kept x (h.kept x t);
  has = λ x i. ⊎_elim (λ (j : In xs x). g.kept x (h.has x j)) (λ (j : In ys x). g.has x j) (in_either xs ys x i);
  only = λ x p t. ⊎_elim
      (λ (u : HasBit k b x). ⊎_elim (λ (v : HasBit k a x). inl v) (λ (i : In xs x). inr (in_left xs ys x i)) (h.only x p u))
      (λ (i : In ys x). inr (in_right xs ys x i))
      (g.only x p t);
}

-- the pairs of a card

here_pairs : (k : RaceShape) (words : List ℕ) (c i : ℕ) (x : ℕ × ℕ) → In (pair_at k (c * k.size + i) (get_or words (c * k.size + i) 0)) x → (j : ℕ) → i < j → In (card_pairs k words c j) x
here_pairs k words c i x there zero lt = absurd (omega arith)
here_pairs k words c i x there (suc j) lt = elim (cases_eq i j) [
  | inl e ↦ in_right (card_pairs k words c j) _ x (subst (λ (m : ℕ). In (pair_at k (c * k.size + m) (get_or words (c * k.size + m) 0)) x) e there)
  | inr ne ↦ in_left (card_pairs k words c j) _ x (here_pairs k words c i x there j (omega (arith, lt, ne)))
]

on_card : (k : RaceShape) (words : List ℕ) (p n : ℕ) → 0 < k.size → get_elem? words p ≡ some n → crosses k p n ≡ true → In (card_pairs k words (slot_card k p) k.size) (slot_card k p, region_at k n)
on_card k words p n pos at cr =
    let x : ℕ × ℕ = (slot_card k p, region_at k n) in
    let here : pair_at k p (get_or words p 0) ≡ x ∷ [] = ap (pair_at k p) (reads_as words p n 0 at) ∙ true_is (crosses k p n) (x ∷ []) [] cr in
    here_pairs k words (slot_card k p) (p % k.size) x (subst (λ (q : ℕ). In (pair_at k q (get_or words q 0)) x) (sym (div-add-mod' p k.size)) (subst (λ (l : List (ℕ × ℕ)). In l x) (sym here) (inl refl))) k.size (mod-lt p pos)

one_pair : (b : Bool) (y x : ℕ × ℕ) → In (cond b (y ∷ []) []) x → (b ≡ true) × (y ≡ x)
one_pair true y x (inl e) = (refl, e)
one_pair true y x (inr n) = absurd n
one_pair false y x i = absurd i

-- each is of a reference that is there
found_there : (k : RaceShape) (words : List ℕ) (c : ℕ) → IsBegun (started k words) → c < k.cards → (i : ℕ) → i ≤ k.size → (x : ℕ × ℕ) → In (card_pairs k words c i) x → (x.0 ≡ c) × BeganInto k words x
found_there k words c h lt zero le x n = absurd n
found_there k words c h lt (suc i) le x there = ⊎_elim
    (λ (a : In (card_pairs k words c i) x). found_there k words c h lt i (omega (arith, le)) x a)
    (λ (b : In (pair_at k (c * k.size + i) (get_or words (c * k.size + i) 0)) x).
    let p : ℕ = c * k.size + i in
    let n = get_or words p 0 in
    let below : p < k.slots = slot_below k c i h.shaped lt (omega (arith, le)) in
    let at : get_elem? words p ≡ some n = begun_read k words p h below in
    let is = one_pair (crosses k p n) (slot_card k p, region_at k n) x b in
    let on : slot_card k p ≡ c = div-mul-add c k.size i (omega (arith, le)) in
    (sym (ap (λ (y : ℕ × ℕ). y.0) is.1) ∙ on, (p, n, at, (below, word_low k p n (h.bounded p n below at) is.0, is.0), is.1)))
    (in_either (card_pairs k words c i) (pair_at k (c * k.size + i) (get_or words (c * k.size + i) 0)) x there)

-- a card that is cleaned, once the bits of its pairs are set

module _ (k : RaceShape) (old mid : List ℕ) (c : ℕ) (was : IsBegun (started k old)) (h : IsBegun (started k mid)) (lt : c < k.cards) (notes : Notes k old mid (card_pairs k old c k.size)) where
  abbrev clean : List ℕ
  clean = set mid (mark_word k c) 0

  bits : SameBits k mid clean
  bits = same_bits k mid (mark_word k c) 0 (omega (arith, lt))

  pub begun_cleaned : IsBegun (started k clean)
  begun_cleaned = begun_mark k mid c 0 lt (λ here. inr (inl (
    here,
    λ p n on below at cr. bit_as k mid clean _ bits
        (notes.has _ (subst (λ (d : ℕ). In (card_pairs k old d k.size) (slot_card k p, region_at k n)) on (on_card k old p n was.shaped.1 (sym (notes.front p (omega (arith, below))) ∙ at) cr))),
  ))) h

  pub refined_is : RefinesCard k old clean c
  refined_is = record {
    slots = λ p below. set_else mid (mark_word k c) p 0 (λ e. absurd (omega (arith, e, below))) ∙ notes.front p (omega (arith, below));
    clean = set_here mid (mark_word k c) 0 (omega (arith, h.sized, lt));
    marks = λ d below ne. set_else mid (mark_word k c) (mark_word k d) 0 (λ e. ne (omega (arith, e))) ∙ notes.front (mark_word k d) (omega (arith, below));
    kept = λ x b. bit_as k mid clean x bits (notes.kept x b);
    only = λ x pair b. ⊎_elim (λ (u : HasBit k old x). inl u) (λ (i : In (card_pairs k old c k.size) x). inr (found_there k old c was lt k.size (omega arith) x i)) (notes.only x pair (bit_as k clean mid x (λ y. sym (bits y)) b));
  }

-- one card after another

-- the cards from one on to the next dirty one are clean
pub refined_past : (k : RaceShape) (old mid : List ℕ) (n m : ℕ) → IsBegun (started k mid) → n ≤ m → ((c : ℕ) → n ≤ c → c < m → c < k.cards → get_elem? mid (mark_word k c) ≡ some 1 → ⊥) → AreRefined k old mid n → AreRefined k old mid m
refined_past k old mid n m b le never h = record { slots = h.slots; clean = λ c up below. pick c up below (cases_lt c n); marks = λ c up below. h.marks c (omega (arith, up, le)) below; kept = h.kept; only = h.only }
  where
    pick : (c : ℕ) → c < m → c < k.cards → (c < n) ⊎ (n ≤ c) → get_elem? mid (mark_word k c) ≡ some 0
    pick c up below (inl low) = h.clean c low below
    pick c up below (inr high) = ⊎_elim (λ (o : get_elem? mid (mark_word k c) ≡ some 1). absurd (never c high up below o)) (λ (z : get_elem? mid (mark_word k c) ≡ some 0). z) (b.marks c below)

-- a dirty card
pub refined_next : (k : RaceShape) (old mid new : List ℕ) (n : ℕ) → n < k.cards → get_elem? mid (mark_word k n) ≡ some 1 → AreRefined k old mid n → RefinesCard k mid new n → AreRefined k old new (n + 1)
refined_next k old mid new n there dirty h g = record {
  slots = λ p lt. g.slots p lt ∙ h.slots p lt;
  clean = filled_next k.cards (mark_word k) (λ c. 0) mid new n h.clean g.clean (λ c ne below. g.marks c below ne);
  marks = λ c up below. g.marks c below (λ e. absurd (omega (arith, up, e))) ∙ h.marks c (omega (arith, up)) below;
  kept = λ x pair b. g.kept x (h.kept x pair b);
  only = λ x pair b. ⊎_elim
      (λ (u : HasBit k mid x). h.only x pair u)
      (λ (i : (x.0 ≡ n) × BeganInto k mid x). inr (subst (λ (c : ℕ). get_elem? old (mark_word k c) ≡ some 1) (sym i.0) (sym (h.marks n (omega arith) there) ∙ dirty), (let b = i.1 in (b.0, b.1, sym (h.slots b.0 b.3.0) ∙ b.2, b.3, b.4))))
      (g.only x pair b);
}
