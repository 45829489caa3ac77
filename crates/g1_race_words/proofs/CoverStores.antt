-- A racer's steps keep that every reference between regions is answered for.
use Rattle.std.specs.Prelude.{◌≡◌, ◌≢◌, ◌⊎◌, ◌<◌}
use Rattle.g1_race_words.specs.{ℕ, cond, eqb, List, length, set, get_or, true, Some, None, refl, sym, ap, ◌∙◌, subst, inl, inr, ⊎_elim, arith, ne_eqb, some, ℕ_discrete, get_elem?, at_set, set_here, set_else, RaceShape, View, slot_card, mark_word, crosses, AnswersFor, IsMarked, Covered, wrote, looked, dirtied}
use Rattle.g1_race_words.proofs.Plain.{read_at, true_is, false_is}
use Rattle.g1_race_words.proofs.Cover.{Answered, HandsOn, covered_moves, Passes, by_seat, others_pass}

-- a racer writes a slot

pub mark_apart : (k : RaceShape) (p c : ℕ) → p < k.slots → mark_word k c ≢ p
mark_apart k p c lt e = absurd (omega arith)

pub covered_wrote : (k : RaceShape) (known : List (ℕ × ℕ)) (words : List ℕ) (views : List View) (id : ℕ) (v : View) (p n o : ℕ) → v.shape ≡ k → v.owed ≡ None → p < k.slots
    → get_elem? views id ≡ some v → Covered k known words views → Covered k known (set words p n) (set views id (wrote v p n o))
covered_wrote k known words views id v p n o shape free lt at h = covered_moves k known words new views (set views id w) h one
  where
    new : List ℕ
    new = set words p n

    w : View
    w = wrote v p n o

    owes : (q m : ℕ) → q ≡ p → n ≡ m → crosses k q m ≡ true → w.owed ≡ Some (slot_card k q)
    owes q m e f cr = subst (λ (s : RaceShape). cond (crosses s p n) (Some (slot_card s p)) None ≡ Some (slot_card k q)) (sym shape)
        (true_is (crosses k p n) (Some (slot_card k p)) None (subst (λ (x : ℕ × ℕ). crosses k x.0 x.1 ≡ true) (λ i. (e i, sym f i)) cr) ∙ ap (λ (x : ℕ). Some (slot_card k x)) (sym e))

    same : (q : ℕ) → IsMarked k words q → IsMarked k new q
    same q m = set_else words p (mark_word k (slot_card k q)) n (mark_apart k p (slot_card k q) lt) ∙ m

    pass : (q m : ℕ) → Passes k new v w q m
    pass q m (inl o) = absurd (cc (o, free))
    pass q m (inr a) = inr (inr a)

    one : (q m : ℕ) → q < k.slots → get_elem? new q ≡ some m → crosses k q m ≡ true → Answered k new (set views id w) q m ⊎ HandsOn k words views new (set views id w) q m
    one q m l e cr = ⊎_elim
        (λ (x : (q ≡ p) × (n ≡ m)). inl (by_seat k new views id v w q m at (inr (inl (owes q m x.0 x.1 cr)))))
        (λ (x : (q ≢ p) × (get_elem? words q ≡ some m)). inr (x.1, (λ mk. inl (same q mk)), others_pass k new views id v w q m at (pass q m)))
        (at_set words p q n m e)

-- a racer finds n at the mark of the card that it owes

looked_passes : (k : RaceShape) (words : List ℕ) (v : View) (c n : ℕ) → v.owed ≡ Some c → get_or words (mark_word k c) 0 ≡ n → mark_word k c < length words → (q m : ℕ) → Passes k words v (looked v n) q m
looked_passes k words v c n owes found short q m (inr a) = inr (inr a)
looked_passes k words v c n owes found short q m (inl o) = pick (ℕ_discrete n 1)
  where
    card : c ≡ slot_card k q
    card = cc (o, owes)

    pick : Dec (n ≡ 1) → IsMarked k words q ⊎ AnswersFor k (looked v n) q m
    pick (yes e) = inl (subst (λ (x : ℕ). get_elem? words (mark_word k x) ≡ some 1) card (read_at words (mark_word k c) short ∙ ap (λ (x : ℕ). some x) (found ∙ e)))
    pick (no ne) = inr (inl (false_is (eqb n 1) None v.owed (ne_eqb n 1 ne) ∙ o))

pub covered_looked : (k : RaceShape) (known : List (ℕ × ℕ)) (words : List ℕ) (views : List View) (id : ℕ) (v : View) (c : ℕ) → v.owed ≡ Some c → mark_word k c < length words
    → get_elem? views id ≡ some v → Covered k known words views → Covered k known words (set views id (looked v (get_or words (mark_word k c) 0)))
covered_looked k known words views id v c owes short at h = covered_moves k known words words views (set views id (looked v n)) h
    (λ q m l e cr. inr (e, (λ mk. inl mk), others_pass k words views id v (looked v n) q m at (looked_passes k words v c n owes refl short q m)))
  where
    n : ℕ
    n = get_or words (mark_word k c) 0

-- the mark of a card is swapped: its slots are answered for anew
pub covered_swapped : (k : RaceShape) (known : List (ℕ × ℕ)) (words : List ℕ) (views : List View) (id : ℕ) (v w : View) (c m : ℕ) → get_elem? views id ≡ some v
    → ((q n : ℕ) → slot_card k q ≡ c → IsMarked k (set words (mark_word k c) m) q ⊎ AnswersFor k w q n) → ((q n : ℕ) → slot_card k q ≢ c → Passes k (set words (mark_word k c) m) v w q n)
    → Covered k known words views → Covered k known (set words (mark_word k c) m) (set views id w)
covered_swapped k known words views id v w c m at here pass h = covered_moves k known words new views (set views id w) h (λ q n l e cr. pick q n l e (ℕ_discrete (slot_card k q) c))
  where
    new : List ℕ
    new = set words (mark_word k c) m

    pick : (q n : ℕ) → q < k.slots → get_elem? new q ≡ some n → Dec (slot_card k q ≡ c) → Answered k new (set views id w) q n ⊎ HandsOn k words views new (set views id w) q n
    pick q n l e (yes is) = inl (by_seat k new views id v w q n at (here q n is))
    pick q n l e (no apart) = inr (
      sym (set_else words (mark_word k c) q m (λ x. mark_apart k q c l (sym x))) ∙ e,
      (λ mk. inl (set_else words (mark_word k c) (mark_word k (slot_card k q)) m (λ x. apart (omega arith)) ∙ mk)),
      others_pass k new views id v w q n at (pass q n apart),
    )

-- a racer dirties the card that it owes

pub covered_dirtied : (k : RaceShape) (known : List (ℕ × ℕ)) (words : List ℕ) (views : List View) (id : ℕ) (v : View) (c n : ℕ) → v.owed ≡ Some c → mark_word k c < length words
    → get_elem? views id ≡ some v → Covered k known words views → Covered k known (set words (mark_word k c) 1) (set views id (dirtied v c n))
covered_dirtied k known words views id v c n owes short at = covered_swapped k known words views id v (dirtied v c n) c 1 at (λ q m is. inl (rw is (set_here words (mark_word k c) 1 short))) pass
  where
    pass : (q m : ℕ) → slot_card k q ≢ c → Passes k (set words (mark_word k c) 1) v (dirtied v c n) q m
    pass q m apart (inl o) = absurd (apart (cc (o, owes)))
    pass q m apart (inr a) = inr (inr a)
