-- What the steps, the splits and the joins do to the rule beside the race itself: who agrees on the beginning, and what is known at a pause.
use Rattle.std.specs.Prelude.{◌≡◌, ◌<◌, ◌≤◌, ◌∷◌, ◌++◌}
use Rattle.g1_race_words.specs.{ℕ, List, [], set, Bool, true, false, refl, None, sym, ap, ◌∙◌, arith, some, get_elem?, set_else, RaceShape, View, Start, Begun, In, StoreHistory, FlagsKept, IsBlank, Raced, Going, started, beginning, start_of, after_split, both, no_seat}
use Rattle.g1_race_words.proofs.Plain.{weigh_all, each_set, each_snoc}
use Rattle.g1_race_words.proofs.FlagsKept.{flags_split, flags_join, flags_enter}

-- where one seat has all the weight, no other answers for anything
pub others_blank : (begun : Begun) (words : List ℕ) (views : List View) (id : ℕ) (v : View) → Raced begun words views → get_elem? views id ≡ some v → v.weight ≡ begun.shape.parties
    → (seat : ℕ) (u : View) → get_elem? views seat ≡ some u → ¬ (seat ≡ id) → IsBlank u
others_blank begun words views id v h at all seat u there apart = h.weighed.1 seat u there (weigh_all views id seat v u at there apart (h.weighed.0 ∙ sym all))

abbrev pub Agrees : Start → Bool → View → Type 0
Agrees begin frozen v = 0 < v.weight → (start_of v ≡ begin) × (v.frozen ≡ frozen)

-- a party's step leaves its seat's weight, beginning and numbers
abbrev pub Stays : View → View → Type 0
Stays v w = (w.weight ≡ v.weight) × (start_of w ≡ start_of v) × (w.frozen ≡ v.frozen) × (w.spare ≡ v.spare)

module _ (k : RaceShape) (words : List ℕ) (views : List View) (h : Going k words views) where
  abbrev pub begin : Start
  begin = started k h.first

  abbrev pub begun : Begun
  begun = beginning begin

  abbrev One : View → Type 0
  One v = Agrees begin h.frozen v

  abbrev Few : View → Type 0
  Few v = v.spare ≤ v.weight

  -- a frozen seat that has weight knows the words
  pub known : (id : ℕ) (v : View) → get_elem? views id ≡ some v → 0 < v.weight → v.frozen ≡ true → words ≡ v.began_words
  known id v at heavy e = let mine = h.agreed id v at heavy in h.still (sym mine.1 ∙ e) ∙ sym (ap (λ (b : Start). b.words) mine.0)

  -- a party's step
  pub going_step : (new : List ℕ) (id : ℕ) (v w : View) → get_elem? views id ≡ some v → 0 < v.weight → v.frozen ≡ false → Stays v w → Raced begun new (set views id w) → FlagsKept k h.first new (set views id w) → Going k new (set views id w)
  going_step new id v w at heavy moving (weight, same, flag, spare) raced flags = record {
    first = h.first;
    proper = h.proper;
    frozen = h.frozen;
    raced = raced;
    agreed = each_set views id w One (λ seat u there ne. h.agreed seat u there) (λ lt. (same ∙ mine.0, flag ∙ mine.1));
    spared = each_set views id w Few (λ seat u there ne. h.spared seat u there) (let s = h.spared id v at in omega (arith, weight, spare, s));
    still = λ e. let f = mine.1 in absurd (cc (e, f, moving));
    flags = flags;
  }
    where
      mine : (start_of v ≡ begin) × (v.frozen ≡ h.frozen)
      mine = h.agreed id v at heavy

  -- where the words stay
  goes : (after : List View) → Raced begun words after → ((seat : ℕ) (v : View) → get_elem? after seat ≡ some v → One v) → ((seat : ℕ) (v : View) → get_elem? after seat ≡ some v → Few v) → FlagsKept k h.first words after → Going k words after
  goes after raced agreed spared flags = record { first = h.first; proper = h.proper; frozen = h.frozen; raced = raced; agreed = agreed; spared = spared; still = h.still; flags = flags }

  -- a seat is split off
  pub going_split : (id : ℕ) (v right : View) → get_elem? views id ≡ some v → 0 < v.weight → start_of right ≡ start_of v → right.frozen ≡ v.frozen → right.spare ≤ right.weight → ((g : StoreHistory) → In right.histories g → g.1 ≡ []) → right.owed ≡ None → Raced begun words (set views id (after_split v) ++ right ∷ []) → Going k words (set views id (after_split v) ++ right ∷ [])
  going_split id v right at heavy same flag few fresh free raced = goes (set views id (after_split v) ++ right ∷ []) raced
      (each_snoc (set views id (after_split v)) right One (each_set views id (after_split v) One (λ seat u there ne. h.agreed seat u there) (λ lt. mine)) (λ lt. (same ∙ mine.0, flag ∙ mine.1)))
      (each_snoc (set views id (after_split v)) right Few (each_set views id (after_split v) Few (λ seat u there ne. h.spared seat u there) (let s = h.spared id v at in omega (arith, s))) few)
      (flags_split k h.first words views id v (after_split v) right at refl refl fresh free h.flags)
    where
      mine : (start_of v ≡ begin) × (v.frozen ≡ h.frozen)
      mine = h.agreed id v at heavy

  -- a seat takes in another
  pub going_join : (id : ℕ) (v : View) (other : ℕ) (u : View) → get_elem? views id ≡ some v → ¬ (other ≡ id) → get_elem? (set views id (both v u)) other ≡ some u → 0 < u.weight → u.owed ≡ None → Raced begun words (set (set views id (both v u)) other no_seat) → Going k words (set (set views id (both v u)) other no_seat)
  going_join id v other u at apart there heavy rest raced = goes (set (set views id (both v u)) other no_seat) raced
      (each_set (set views id (both v u)) other no_seat One (λ seat y is ne. each_set views id (both v u) One (λ seat y is ne. h.agreed seat y is) (λ lt. mine) seat y is) (λ lt. absurd (omega (arith, lt))))
      (each_set (set views id (both v u)) other no_seat Few (λ seat y is ne. each_set views id (both v u) Few (λ seat y is ne. h.spared seat y is) (let s = h.spared id v at in omega (arith, s)) seat y is) (omega arith))
      (flags_join k h.first words views id other v u no_seat at apart there refl refl rest h.flags)
    where
      mine : (start_of u ≡ begin) × (u.frozen ≡ h.frozen)
      mine = h.agreed other u (sym (set_else views id other (both v u) apart) ∙ there) heavy

  -- a seat comes
  pub going_enter : (w : View) → w.weight ≡ 0 → w.spare ≡ 0 → w.owed ≡ None → Raced begun words (views ++ w ∷ []) → Going k words (views ++ w ∷ [])
  going_enter w light few free raced = goes (views ++ w ∷ []) raced
      (each_snoc views w One h.agreed (λ lt. absurd (omega (arith, lt, light))))
      (each_snoc views w Few h.spared (omega (arith, light, few)))
      (flags_enter k h.first words views w free h.flags)
