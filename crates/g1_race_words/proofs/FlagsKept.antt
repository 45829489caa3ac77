-- No flag is set but those of cards that racers stored to.
use Rattle.std.specs.Prelude.{◌≡◌, ◌⊎◌, ◌+◌, ◌*◌, ◌/◌, ◌<◌, ◌∷◌, ◌++◌}
use Rattle.g1_race_words.specs.{ℕ, cond, eqb, Bool, true, false, List, [], length, set, get_or, Some, None, refl, sym, ap, ◌∙◌, subst, inl, inr, ⊎_elim, arith, some, get_elem?, set-get_or, RaceShape, View, In, OfSome, StoreHistory, StoresTo, IsStoredTo, FlagsKept, IsWholeShape, IsWord, HasBit, crosses, slot_card, bit_word, gains_store, wrote, looked, both}
use Rattle.g1_race_words.proofs.Plain.{in_left, in_right, put_here, some_on, some_back, some_longer, some_shorter, some_splits, some_joined, some_joins}
use Rattle.g1_race_words.proofs.PairBits.{with_pair, bits_back, same_bits, bit_as}
use Rattle.g1_race_words.proofs.Crossing.{word_low}
use Rattle.g1_race_words.proofs.Writing.{grown, gained_on}

abbrev Owes : ℕ → View → Type 0
Owes c v = v.owed ≡ Some c

-- a flag is set that wasn't only for a card that is stored to, and what was stored and is owed stays so
abbrev pub BitsFrom : RaceShape → List ℕ → List ℕ → (ℕ → Type 0) → Type 0
BitsFrom k words new P = (x : ℕ) → x < k.cards → HasBit k new (x, k.regions) → HasBit k words (x, k.regions) ⊎ ((c : ℕ) × (c / 8 * 8 ≡ x) × P c)

flags_from : (k : RaceShape) (first words new : List ℕ) (views after : List View) → BitsFrom k words new (IsStoredTo k views) → ((c : ℕ) → IsStoredTo k views c → IsStoredTo k after c)
    → ((c : ℕ) → OfSome (Owes c) after → OfSome (Owes c) views ⊎ IsStoredTo k after c) → FlagsKept k first words views → FlagsKept k first new after
flags_from k first words new views after bits stays owes h = record {
  only = λ x lt b. ⊎_elim
      (λ (o : HasBit k words (x, k.regions)). ⊎_elim
      (λ (a : HasBit k first (x, k.regions)). inl a)
      (λ (a : (c : ℕ) × (c / 8 * 8 ≡ x) × IsStoredTo k views c). inr (a.0, a.1, stays a.0 a.2))
      (h.only x lt o))
      (λ (a : (c : ℕ) × (c / 8 * 8 ≡ x) × IsStoredTo k views c). inr (a.0, a.1, stays a.0 a.2))
      (bits x lt b);
  owed = λ c seat v at o. ⊎_elim
      (λ (a : OfSome (Owes c) views). stays c (h.owed c a.0 a.1 a.2 a.3))
      (λ (a : IsStoredTo k after c). a)
      (owes c (seat, v, at, o));
}

-- a party's step
pub flags_step : (k : RaceShape) (first words new : List ℕ) (views : List View) (id : ℕ) (v w : View) → get_elem? views id ≡ some v → BitsFrom k words new (λ c. Owes c v) → ((c : ℕ) → StoresTo k c v → StoresTo k c w)
    → ((c : ℕ) → Owes c w → Owes c v ⊎ StoresTo k c w) → FlagsKept k first words views → FlagsKept k first new (set views id w)
flags_step k first words new views id v w at bits stays owes h = flags_from k first words new views after
    (λ x lt b. ⊎_elim (λ (o : HasBit k words (x, k.regions)). inl o) (λ (a : (c : ℕ) × (c / 8 * 8 ≡ x) × Owes c v). inr (a.0, a.1, h.owed a.0 id v at a.2)) (bits x lt b))
    kept
    (λ c o. ⊎_elim
    (λ (a : OfSome (Owes c) views). inl a)
    (λ (a : Owes c w). ⊎_elim (λ (b : Owes c v). inl (id, v, at, b)) (λ (b : StoresTo k c w). inr (mine c b)) (owes c a))
    (some_back (Owes c) views id w o)) h
  where
    after : List View
    after = set views id w

    kept : (c : ℕ) → IsStoredTo k views c → IsStoredTo k after c
    kept c = some_on (StoresTo k c) views id v w at (stays c)

    mine : (c : ℕ) → StoresTo k c w → IsStoredTo k after c
    mine c s = (id, w, put_here views id v w at, s)

-- the words stay
same_words : (k : RaceShape) (words : List ℕ) (P : ℕ → Type 0) → BitsFrom k words words P
same_words k words P x lt b = inl b

-- a seat is split off, which has stored nothing
pub flags_split : (k : RaceShape) (first words : List ℕ) (views : List View) (id : ℕ) (v left right : View) → get_elem? views id ≡ some v → left.histories ≡ v.histories → left.owed ≡ v.owed → ((h : StoreHistory) → In right.histories h → h.1 ≡ []) → right.owed ≡ None
    → FlagsKept k first words views → FlagsKept k first words (set views id left ++ right ∷ [])
flags_split k first words views id v left right at stores owed fresh free = flags_from k first words words views (set views id left ++ right ∷ []) (same_words k words (IsStoredTo k views))
    (λ c. (some_splits (StoresTo k c) views id v left right at (λ s. (s.0, s.1, s.2, subst (λ (l : List StoreHistory). In l s.0) (sym stores) s.3, s.4, s.5, s.6)) (λ s. (s.0, s.1, s.2, subst (λ (l : List StoreHistory). In l s.0) stores s.3, s.4, s.5, s.6)) (λ s. subst (λ (l : List (ℕ × ℕ)). In l (s.1, s.2)) (fresh s.0 s.3) s.4)).0)
    (λ c o. inl ((some_splits (Owes c) views id v left right at (λ a. owed ∙ a) (λ a. sym owed ∙ a) (λ a. absurd (cc (a, free)))).1 o))

-- a seat takes in another
pub flags_join : (k : RaceShape) (first words : List ℕ) (views : List View) (id other : ℕ) (v u spent : View) → get_elem? views id ≡ some v → ¬ (other ≡ id) → get_elem? (set views id (both v u)) other ≡ some u → spent.histories ≡ [] → spent.owed ≡ None → u.owed ≡ None
    → FlagsKept k first words views → FlagsKept k first words (set (set views id (both v u)) other spent)
flags_join k first words views id other v u spent at apart there empty free rest = flags_from k first words words views (set (set views id (both v u)) other spent) (same_words k words (IsStoredTo k views))
    (λ c. some_joined (StoresTo k c) views id other v u (both v u) spent at apart there (λ s. (s.0, s.1, s.2, in_left v.histories u.histories s.0 s.3, s.4, s.5, s.6)) (λ s. (s.0, s.1, s.2, in_right v.histories u.histories s.0 s.3, s.4, s.5, s.6)))
    (λ c o. inl ((some_joins (Owes c) views id other v u (both v u) spent at apart there (λ a. a) (λ a. absurd (cc (a, rest))) (λ a. inl a) (λ a. absurd (cc (a, free)))).1 o))

-- a seat comes
pub flags_enter : (k : RaceShape) (first words : List ℕ) (views : List View) (w : View) → w.owed ≡ None → FlagsKept k first words views → FlagsKept k first words (views ++ w ∷ [])
flags_enter k first words views w free = flags_from k first words words views (views ++ w ∷ []) (same_words k words (IsStoredTo k views))
    (λ c. some_longer (StoresTo k c) views w)
    (λ c o. ⊎_elim (λ (a : OfSome (Owes c) views). inl a) (λ (a : Owes c w). absurd (cc (a, free))) (some_shorter (Owes c) views w o))

-- a race begins
pub flags_fresh : (k : RaceShape) (words : List ℕ) (views : List View) → ((seat : ℕ) (u : View) → get_elem? views seat ≡ some u → u.owed ≡ None) → FlagsKept k words words views
flags_fresh k words views free = record { only = λ x lt b. inl b; owed = λ c seat v at o. let e = free seat v at in absurd (cc (o, e)) }

-- the words that steps leave

pub front_bits : (k : RaceShape) (words : List ℕ) (i n : ℕ) (P : ℕ → Type 0) → i < k.slots + k.cards → BitsFrom k words (set words i n) P
front_bits k words i n P lt x below b = inl (bit_as k (set words i n) words (x, k.regions) (λ y. sym (same_bits k words i n lt y)) b)

pub loaded_bits : (k : RaceShape) (words : List ℕ) (i : ℕ) (P : ℕ → Type 0) → BitsFrom k words (set words i (get_or words i 0)) P
loaded_bits k words i P x lt b = inl (subst (λ (l : List ℕ). HasBit k l (x, k.regions)) (set-get_or words i 0) b)

pub pair_bits : (k : RaceShape) (words : List ℕ) (y : ℕ × ℕ) (P : ℕ → Type 0) → IsWholeShape k → bit_word k y < length words → y.0 < k.cards → y.1 < k.regions → BitsFrom k words (with_pair k words y) P
pair_bits k words y P shaped short low row x lt b = ⊎_elim
    (λ (o : HasBit k words (x, k.regions)). inl o)
    (λ (e : y ≡ (x, k.regions)). absurd (let f : y.1 ≡ k.regions = ap (λ (z : ℕ × ℕ). z.1) e in omega (arith, f, row)))
    (bits_back k words y short (x, k.regions) shaped low lt b)

pub flag_bits : (k : RaceShape) (words : List ℕ) (c : ℕ) (P : ℕ → Type 0) → IsWholeShape k → bit_word k (c / 8 * 8, k.regions) < length words → c / 8 * 8 < k.cards → P c → BitsFrom k words (with_pair k words (c / 8 * 8, k.regions)) P
flag_bits k words c P shaped short low owes x lt b = ⊎_elim
    (λ (o : HasBit k words (x, k.regions)). inl o)
    (λ (e : (c / 8 * 8, k.regions) ≡ (x, k.regions)). inr (c, ap (λ (z : ℕ × ℕ). z.0) e, owes))
    (bits_back k words (c / 8 * 8, k.regions) short (x, k.regions) shaped low lt b)

-- what a racer owes

pub owed_looked : (v : View) (n c : ℕ) → Owes c (looked v n) → Owes c v
owed_looked v n c = pick (eqb n 1)
  where
    pick : (b : Bool) → cond b None v.owed ≡ Some c → v.owed ≡ Some c
    pick true e = absurd (cc (e))
    pick false e = e

module _ (k : RaceShape) (v : View) (p n o : ℕ) (shape : v.shape ≡ k) (lt : p < k.slots) (fits : IsWord k n) where
  pub stores_wrote : (c : ℕ) → StoresTo k c v → StoresTo k c (wrote v p n o)
  stores_wrote c s = ⊎_elim
      (λ (a : In (gains_store p n v.histories) s.0). (s.0, s.1, s.2, a, s.4, s.5, s.6))
      (λ (a : In (gains_store p n v.histories) (grown p n s.0)). (grown p n s.0, s.1, s.2, a, inr s.4, s.5, s.6))
      (gained_on p n v.histories s.0 s.3)

  pub owed_wrote : (mine : StoreHistory) → v.histories ≡ mine ∷ [] → (c : ℕ) → Owes c (wrote v p n o) → Owes c v ⊎ StoresTo k c (wrote v p n o)
  owed_wrote mine one c e = pick (crosses k p n) refl (subst (λ (s : RaceShape). cond (crosses s p n) (Some (slot_card s p)) None ≡ Some c) shape e)
    where
      newest : In (gains_store p n v.histories) (grown p n mine)
      newest = subst (λ (l : List StoreHistory). In (gains_store p n l) (grown p n mine)) (sym one) (inl refl)

      pick : (b : Bool) → crosses k p n ≡ b → cond b (Some (slot_card k p)) None ≡ Some c → Owes c v ⊎ StoresTo k c (wrote v p n o)
      pick true cr e = inr (grown p n mine, p, n, newest, inl refl, (lt, word_low k p n fits cr, cr), cc (e))
      pick false cr e = absurd (cc (e))
