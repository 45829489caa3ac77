-- A sweeper looks for the bit of the pair that it holds, and sets it.
use Rattle.std.specs.Prelude.{◌≡◌, ◌⊎◌, ◌<◌, ◌∷◌}
use Rattle.g1_race_words.specs.{ℕ, cond, eqb, Bool, true, false, List, [], length, set, get_or, refl, sym, ◌∙◌, subst, inl, inr, ⊎_elim, arith, length-set, cases_eq, ne_eqb, some, get_elem?, bit_at, RaceShape, View, Begun, slot_card, mark_word, flag, In, claims_of, cleanings_of, IsWholeShape, IsPair, HasBit, PairsKept, Flagged, Raced, bit_word, bit_index, word_count, unset, sought, recorded, Sits}
use Rattle.g1_race_words.proofs.Plain.{in_one, held_same, false_is}
use Rattle.g1_race_words.proofs.PairBits.{card_below, word_below, with_pair, bit_here, bits_stay, bits_back}
use Rattle.g1_race_words.proofs.Cover.{covered_moves, others_pass}
use Rattle.g1_race_words.proofs.Keeping.{kept_moves}
use Rattle.g1_race_words.proofs.Flags.{SameFront, flags_stay, front_stays}
use Rattle.g1_race_words.proofs.Balance.{raced_step}
use Rattle.g1_race_words.proofs.Unchanged.{pairs_stay, claim_same, counted_stays}

-- the words of slots and marks stay, and what a seat holds changes, of pairs and of flags

pub raced_held : (begun : Begun) (words new : List ℕ) (views : List View) (id : ℕ) (v : View) (l : List (ℕ × ℕ)) (m : List ℕ) → IsWholeShape begun.shape → Sits begun.shape v → length new ≡ length words → SameFront begun.shape words new → get_elem? views id ≡ some v
    → PairsKept begun.shape begun.pairs new (set views id (record v { held = l; flagged = m })) → Flagged begun.shape new (set views id (record v { held = l; flagged = m }))
    → Raced begun words views → Raced begun new (set views id (record v { held = l; flagged = m }))
raced_held begun words new views id v l m shaped sits len front at kept flags h = raced_step begun words new views id v w at sits.weight (refl, refl, refl, refl) len slots
    (covered_moves k begun.pairs words new views (set views id w) h.covered
    (λ p n lt there cr. inr (slots p n lt there, (λ m. inl (front (mark_word k (slot_card k p)) (let c = card_below k p shaped lt in omega arith) ∙ m)), others_pass k new views id v w p n at (λ a. inr a))))
    (pairs_stay k begun.words views id v w at refl refl h.recorded)
    kept
    (λ c lt. claim_same k begun.words words new views (set views id w) c (front (mark_word k c) (omega arith))
    (held_same claims_of views id v w at refl c).0 (held_same claims_of views id v w at refl c).1 (held_same cleanings_of views id v w at refl c).0 (h.claimed c lt))
    (λ c m n lt was is. counted_stays k begun.words words words views id v w at refl refl (λ d. refl) h.counted c m n lt was (sym (front (mark_word k c) (omega (arith, lt))) ∙ is))
    flags h
  where
    k : RaceShape
    k = begun.shape

    w : View
    w = record v { held = l; flagged = m }

    slots : (p n : ℕ) → p < k.slots → get_elem? new p ≡ some n → get_elem? words p ≡ some n
    slots p n lt there = sym (front p (omega arith)) ∙ there

-- the bit is looked for

unset_one : (k : RaceShape) (n : ℕ) (x : ℕ × ℕ) (l : List (ℕ × ℕ)) → l ≡ x ∷ [] → (bit_at n (bit_index k x) ≡ 1) ⊎ In (unset k n l) x
unset_one k n x l one = let bit = bit_at n (bit_index k x) in elim (cases_eq bit 1) [ inl e ↦ inl e | inr ne ↦ inr (rw one (rw (false_is (eqb bit 1) [] (x ∷ []) (ne_eqb bit 1 ne)) (inl refl))) ]

unset_back : (k : RaceShape) (n : ℕ) (x : ℕ × ℕ) (l : List (ℕ × ℕ)) → l ≡ x ∷ [] → (y : ℕ × ℕ) → In (unset k n l) y → In l y
unset_back k n x l one y i = rw one (pick (eqb (bit_at n (bit_index k x)) 1) (rw one at i))
  where
    pick : (b : Bool) → In (cond b [] (x ∷ [])) y → In (x ∷ []) y
    pick true j = absurd j
    pick false j = j

pub raced_sought : (begun : Begun) (words : List ℕ) (views : List View) (id : ℕ) (v : View) (x : ℕ × ℕ) → IsWholeShape begun.shape → Sits begun.shape v → v.held ≡ x ∷ []
    → get_elem? views id ≡ some v → Raced begun words views → Raced begun words (set views id (sought v (get_or words (bit_word begun.shape x) 0)))
raced_sought begun words views id v x shaped sits one at h = raced_held begun words words views id v w.held v.flagged shaped sits refl (λ i lt. refl) at
    (kept_moves k begun.pairs words words views id v w at (λ y i. i) (λ y i. inl i) (λ y b. b) (λ y p b. inl b) found (λ y i. inl (unset_back v.shape (get_or words (bit_word k x) 0) x v.held one y i)) h.kept)
    (flags_stay k words words views id v w at refl (λ c lt m. m) (λ c b. b) h.flagged) h
  where
    k : RaceShape
    k = begun.shape

    w : View
    w = sought v (get_or words (bit_word k x) 0)

    found : (y : ℕ × ℕ) → In v.held y → HasBit k words y ⊎ In w.held y
    found y i = subst (λ (z : ℕ × ℕ). HasBit k words z ⊎ In w.held z) (in_one v.held x y one i)
        (subst (λ (s : RaceShape). HasBit k words x ⊎ In (unset s (get_or words (bit_word k x) 0) v.held) x) (sym sits.shape) (unset_one k (get_or words (bit_word k x) 0) x v.held one))

-- the bit is set

pub raced_recorded : (begun : Begun) (words : List ℕ) (views : List View) (id : ℕ) (v : View) (x : ℕ × ℕ) → IsWholeShape begun.shape → Sits begun.shape v → v.held ≡ x ∷ [] → IsPair begun.shape x
    → get_elem? views id ≡ some v → Raced begun words views → Raced begun (with_pair begun.shape words x) (set views id (recorded v))
raced_recorded begun words views id v x shaped sits one pair at h = raced_held begun words new views id v [] v.flagged shaped sits (length-set words (bit_word k x) _)
    front at
    (kept_moves k begun.pairs words new views id v w at (λ y i. i) (λ y i. inl i) (bits_stay k words x short) (λ y p b. ⊎_elim (λ (c : HasBit k words y). inl c) (λ (e : x ≡ y). inr (rw one (inl e))) (bits_back k words x short y shaped pair.0 p.0 b))
    (λ y i. inl (subst (HasBit k new) (in_one v.held x y one i) (bit_here k words x short))) (λ y i. absurd i) h.kept)
    (flags_stay k words new views id v w at refl (λ c lt m. sym (front (mark_word k c) (omega (arith, lt))) ∙ m) (λ c. bits_stay k words x short (flag k c)) h.flagged) h
  where
    k : RaceShape
    k = begun.shape

    w : View
    w = recorded v

    new : List ℕ
    new = with_pair k words x

    short : bit_word k x < length words
    short = let e : length words ≡ word_count k = h.sized in omega (arith, e, word_below k x shaped pair)

    front : SameFront k words new
    front = front_stays k words x
