-- A sweeper's steps, and those of seats, keep that every reference between regions is answered for.
use Rattle.std.specs.Prelude.{◌≡◌, ◌≢◌, ◌⊎◌, ◌+◌, ◌*◌, ◌/◌, ◌%◌, ◌<◌, ◌≤◌, ◌∷◌, ◌++◌}
use Rattle.g1_race_words.specs.{ℕ, List, [], set, get_or, true, None, sym, ap, subst, inl, inr, arith, div-add-mod', mod-lt, some, ℕ_discrete, get_elem?, RaceShape, View, slot_card, mark_word, region_at, crosses, In, AnswersFor, IsMarked, Covered, cleaned, pair_at, read, both}
use Rattle.g1_race_words.proofs.Plain.{in_cond_here, in_left, in_right, read_is, some_on, some_longer, some_joined}
use Rattle.g1_race_words.proofs.Cover.{covered_moves, Passes, others_pass}
use Rattle.g1_race_words.proofs.CoverStores.{covered_swapped}

-- a sweeper cleans card c

card_slots : (size p c : ℕ) → 0 < size → p / size ≡ c → (c * size ≤ p) × (p < c * size + size)
card_slots size p c pos e = let a = div-add-mod' p size in let b = mod-lt p pos in
    let x : ℕ = p / size * size in let y : ℕ = c * size in let s : x ≡ y = ap (λ (i : ℕ). i * size) e in let r : ℕ = p % size in let a' : x + r ≡ p = a in let b' : r < size = b in (omega arith, omega arith)

pub covered_cleaned : (k : RaceShape) (known : List (ℕ × ℕ)) (words : List ℕ) (views : List View) (id : ℕ) (v : View) (c n : ℕ) → v.shape ≡ k → 0 < k.size → v.next ≡ v.end
    → get_elem? views id ≡ some v → Covered k known words views → Covered k known (set words (mark_word k c) 0) (set views id (cleaned v c n))
covered_cleaned k known words views id v c n shape pos done at = covered_swapped k known words views id v (cleaned v c n) c 0 at
    (λ q m is. inr (inr (inl (subst (λ (s : RaceShape). (c * s.size ≤ q) × (q < c * s.size + s.size)) (sym shape) (card_slots k.size q c pos is))))) pass
  where
    pass : (q m : ℕ) → slot_card k q ≢ c → Passes k (set words (mark_word k c) 0) v (cleaned v c n) q m
    pass q m apart (inl o) = inr (inl o)
    pass q m apart (inr (inl a)) = absurd (omega (arith, a.0, a.1, done))
    pass q m apart (inr (inr a)) = inr (inr (inr a))

-- a sweeper reads slot p

pair_there : (k : RaceShape) (p n : ℕ) → crosses k p n ≡ true → In (pair_at k p n) (slot_card k p, region_at k n)
pair_there k p n cr = in_cond_here (crosses k p n) (slot_card k p, region_at k n) [] cr

pub covered_read : (k : RaceShape) (known : List (ℕ × ℕ)) (words : List ℕ) (views : List View) (id : ℕ) (v : View) (p : ℕ) → v.shape ≡ k → v.next ≡ p
    → get_elem? views id ≡ some v → Covered k known words views → Covered k known words (set views id (read v p (get_or words p 0)))
covered_read k known words views id v p shape next at h = covered_moves k known words words views (set views id w) h
    (λ q m l e cr. inr (e, (λ mk. inl mk), others_pass k words views id v w q m at (pass q m e cr)))
  where
    n : ℕ
    n = get_or words p 0

    w : View
    w = read v p n

    pass : (q m : ℕ) → get_elem? words q ≡ some m → crosses k q m ≡ true → Passes k words v w q m
    pass q m e cr (inl o) = inr (inl o)
    pass q m e cr (inr (inr a)) = inr (inr (inr (in_left v.pairs (pair_at v.shape p n) _ a)))
    pass q m e cr (inr (inl a)) = pick (ℕ_discrete q p)
      where
        pick : Dec (q ≡ p) → IsMarked k words q ⊎ AnswersFor k w q m
        pick (yes is) = let m_is : n ≡ m = read_is words p m (subst (λ (i : ℕ). get_elem? words i ≡ some m) is e) in
            inr (inr (inr (in_right v.pairs (pair_at v.shape p n) _ (subst (λ (s : RaceShape). In (pair_at s p n) (slot_card k q, region_at k m)) (sym shape)
            (subst (λ (x : ℕ × ℕ). In (pair_at k x.0 x.1) (slot_card k q, region_at k m)) (λ i. (is i, sym m_is i)) (pair_there k q m cr))))))
        pick (no apart) = inr (inr (inl (omega (arith, a.0, next), a.1)))

-- a seat is split off

pub covered_split : (k : RaceShape) (known : List (ℕ × ℕ)) (words : List ℕ) (views : List View) (id : ℕ) (v left right : View) → get_elem? views id ≡ some v → ((q m : ℕ) → AnswersFor k v q m → AnswersFor k left q m)
    → Covered k known words views → Covered k known words (set views id left ++ right ∷ [])
covered_split k known words views id v left right at pass h = covered_moves k known words words views (set views id left ++ right ∷ []) h
    (λ q m l e cr. inr (e, (λ mk. inl mk), λ s. inr (some_longer (λ u. AnswersFor k u q m) (set views id left) right (some_on (λ u. AnswersFor k u q m) views id v left at (pass q m) s))))

-- one seat at rest takes in another

pub covered_join : (k : RaceShape) (known : List (ℕ × ℕ)) (words : List ℕ) (views : List View) (id : ℕ) (v : View) (other : ℕ) (u spent : View) → u.owed ≡ None → u.next ≡ u.end
    → get_elem? views id ≡ some v → ¬ (other ≡ id) → get_elem? (set views id (both v u)) other ≡ some u
    → Covered k known words views → Covered k known words (set (set views id (both v u)) other spent)
covered_join k known words views id v other u spent free done at apart there h = covered_moves k known words words views (set (set views id (both v u)) other spent) h
    (λ q m l e cr. inr (e, (λ mk. inl mk), λ s. inr (some_joined (λ x. AnswersFor k x q m) views id other v u (both v u) spent at apart there (mine q m) (theirs q m) s)))
  where
    mine : (q m : ℕ) → AnswersFor k v q m → AnswersFor k (both v u) q m
    mine q m (inl o) = inl o
    mine q m (inr (inl a)) = inr (inl a)
    mine q m (inr (inr a)) = inr (inr (in_left v.pairs u.pairs _ a))

    theirs : (q m : ℕ) → AnswersFor k u q m → AnswersFor k (both v u) q m
    theirs q m (inl o) = absurd (cc (o, free))
    theirs q m (inr (inl a)) = absurd (omega (arith, a.0, a.1, done))
    theirs q m (inr (inr a)) = inr (inr (in_right v.pairs u.pairs _ a))
