-- A racer looks for the flag of the card that it owes, sets it, and dirties the card.
use Rattle.std.specs.Prelude.{◌≡◌, ◌<◌, ◌∷◌}
use Rattle.g1_race_words.specs.{ℕ, eqb, eqb-true, true, List, [], length, set, get_or, Option, Some, refl, sym, ap, ◌∙◌, subst, inl, inr, ⊎_elim, arith, length-set, some, ℕ_discrete, get_elem?, bit_at, set_else, RaceShape, View, Begun, In, Held, flagged_of, mark_word, bit_word, bit_index, flag, IsFlagged, IsWholeShape, HasBit, Flagged, Raced, owed_card, set_flags, spotted, raised, dirtied, Sits}
use Rattle.g1_race_words.proofs.Plain.{in_one, in_cond_back, held_back}
use Rattle.g1_race_words.proofs.PairBits.{with_pair, bit_here, bits_stay, bits_back, same_bits, bit_as}
use Rattle.g1_race_words.proofs.Keeping.{kept_stays, kept_moves}
use Rattle.g1_race_words.proofs.Recording.{raced_held}
use Rattle.g1_race_words.proofs.Flags.{flag_below, flag_card, front_stays}

-- the flag is looked for

set_back : (k : RaceShape) (n : ℕ) (cs : List ℕ) (d : ℕ) → In (set_flags k n cs) d → In cs d × (bit_at n (bit_index k (flag k d)) ≡ 1)
set_back k n [] d i = absurd i
set_back k n (c ∷ cs) d i = let bit = bit_at n (bit_index k (flag k c)) in ⊎_elim
    (λ (t : (c ≡ d) × (eqb bit 1 ≡ true)). (inl t.0, subst (λ (x : ℕ). bit_at n (bit_index k (flag k x)) ≡ 1) t.0 (eqb-true bit 1 t.1)))
    (λ (j : In (set_flags k n cs) d). let m = set_back k n cs d j in (inr m.0, m.1))
    (in_cond_back (eqb bit 1) c d (set_flags k n cs) i)

pub raced_spotted : (begun : Begun) (words : List ℕ) (views : List View) (id : ℕ) (v : View) (c : ℕ) → IsWholeShape begun.shape → Sits begun.shape v → v.owed ≡ Some c
    → get_elem? views id ≡ some v → Raced begun words views → Raced begun words (set views id (spotted v (get_or words (bit_word begun.shape (flag begun.shape c)) 0)))
raced_spotted begun words views id v c shaped sits owes at h = raced_held begun words words views id v v.held w.flagged shaped sits refl (λ i lt. refl) at
    (kept_stays k begun.pairs words words views id v w at refl refl (λ x. refl) h.kept)
    (record { marked = h.flagged.marked; known = λ d b. ⊎_elim (λ (a : Held flagged_of views d). h.flagged.known d a) (λ (i : In w.flagged d). found d i) (held_back flagged_of views id w d b) }) h
  where
    k : RaceShape
    k = begun.shape

    n : ℕ
    n = get_or words (bit_word k (flag k c)) 0

    w : View
    w = spotted v n

    found : (d : ℕ) → In w.flagged d → IsFlagged k words d
    found d i =
        let b = set_back k n (owed_card v.owed) d (subst (λ (s : RaceShape). In (set_flags s n (owed_card v.owed)) d) sits.shape i) in
        let e : c ≡ d = in_one (owed_card v.owed) c d (ap owed_card owes) b.0 in
        subst (IsFlagged k words) e (subst (λ (x : ℕ). bit_at n (bit_index k (flag k x)) ≡ 1) (sym e) b.1)

-- the flag is set

pub raced_raised : (begun : Begun) (words : List ℕ) (views : List View) (id : ℕ) (v : View) (c : ℕ) → IsWholeShape begun.shape → Sits begun.shape v → v.owed ≡ Some c → c < begun.shape.cards
    → get_elem? views id ≡ some v → Raced begun words views → Raced begun (with_pair begun.shape words (flag begun.shape c)) (set views id (raised v))
raced_raised begun words views id v c shaped sits owes lt at h = raced_held begun words new views id v v.held w.flagged shaped sits (length-set words (bit_word k x) _) (front_stays k words x) at
    (kept_moves k begun.pairs words new views id v w at (λ y i. i) (λ y i. inl i) (bits_stay k words x short)
    (λ y p b. ⊎_elim (λ (o : HasBit k words y). inl o) (λ (e : x ≡ y). absurd (let r : k.regions ≡ y.1 = ap (λ (z : ℕ × ℕ). z.1) e in let l : y.1 < k.regions = p.1 in omega (arith, r, l))) (bits_back k words x short y shaped (flag_card k c lt) p.0 b))
    (λ y i. inr i) (λ y i. inl i) h.kept)
    (record {
      marked = λ d below m. bits_stay k words x short (flag k d) (h.flagged.marked d below (sym (front_stays k words x (mark_word k d) (omega (arith, below))) ∙ m));
      known = λ d b. ⊎_elim (λ (a : Held flagged_of views d). bits_stay k words x short (flag k d) (h.flagged.known d a)) (λ (i : In w.flagged d). subst (IsFlagged k new) (in_one (owed_card v.owed) c d (ap owed_card owes) i) (bit_here k words x short)) (held_back flagged_of views id w d b);
    }) h
  where
    k : RaceShape
    k = begun.shape

    x : ℕ × ℕ
    x = flag k c

    w : View
    w = raised v

    new : List ℕ
    new = with_pair k words x

    short : bit_word k x < length words
    short = subst (λ (n : ℕ). bit_word k x < n) (sym h.sized) (flag_below k c shaped lt)

-- the mark is made dirty

pub flagged_dirtied : (k : RaceShape) (words : List ℕ) (views : List View) (id : ℕ) (v : View) (c n : ℕ) → v.owed ≡ Some c → v.flagged ≡ owed_card v.owed → c < k.cards
    → get_elem? views id ≡ some v → Flagged k words views → Flagged k (set words (mark_word k c) 1) (set views id (dirtied v c n))
flagged_dirtied k words views id v c n owes is lt at h = record {
  marked = λ d below m. pick d below m (ℕ_discrete d c);
  known = λ d b. ⊎_elim (λ (a : Held flagged_of views d). stays d (h.known d a)) (λ (i : In (dirtied v c n).flagged d). absurd i) (held_back flagged_of views id (dirtied v c n) d b);
}
  where
    stays : (d : ℕ) → IsFlagged k words d → IsFlagged k (set words (mark_word k c) 1) d
    stays d = bit_as k words (set words (mark_word k c) 1) (flag k d) (same_bits k words (mark_word k c) 1 (omega (arith, lt)))

    mine : IsFlagged k words c
    mine = h.known c (id, v, at, subst (λ (l : List ℕ). In l c) (sym is) (subst (λ (o : Option ℕ). In (owed_card o) c) (sym owes) (inl refl)))

    pick : (d : ℕ) → d < k.cards → get_elem? (set words (mark_word k c) 1) (mark_word k d) ≡ some 1 → Dec (d ≡ c) → IsFlagged k (set words (mark_word k c) 1) d
    pick d below m (yes e) = stays d (subst (IsFlagged k words) (sym e) mine)
    pick d below m (no ne) = stays d (h.marked d below (sym (set_else words (mark_word k c) (mark_word k d) 1 (λ x. ne (omega arith))) ∙ m))
