-- What was stored and what was overwritten: each step keeps their balance.
use Rattle.std.specs.Prelude.{◌≡◌, ◌≢◌, ◌+◌, ◌<◌, ◌∷◌, ◌++◌}
use Rattle.g1_race_words.specs.{ℕ, cond, eqb, eq-eqb, ne_eqb, List, [], length, set, get_or, Bool, refl, sym, ap, ◌∙◌, subst, inl, inr, arith, sum_by, some, some-injective, ℕ_discrete, get_elem?, set_here, set_else, RaceShape, View, Begun, Covered, Recorded, PairsKept, Claimed, MarksCounted, Flagged, Raced, In, StoreHistory, sum_at, stored_sum, overwritten_sum, total, Balanced, gains_store, wrote}
use Rattle.std.proofs.lemmas.List.Sums.{sum_by-cons, sum_by-append}
use Rattle.g1_race_words.proofs.Plain.{total_same, read_at, total_set}
use Rattle.g1_race_words.proofs.Unchanged.{SameSlots, weighed_step, numbers_stay, bounded_same, stores_stay}

module _ (f : ℕ → ℕ) (q : ℕ) where
  -- the stores in these histories
  abbrev pub sum_in : List StoreHistory → ℕ
  sum_in hs = sum_by (λ (h : StoreHistory). sum_at f q h.1) hs

  -- what a slot and a word add
  abbrev gives : ℕ × ℕ → ℕ
  gives s = cond (eqb s.0 q) (f s.1) 0

  more : (s : ℕ × ℕ) (l : List (ℕ × ℕ)) → sum_at f q (s ∷ l) ≡ gives s + sum_at f q l
  more s l = sum_by-cons gives s l

  pub sum_both : (l m : List (ℕ × ℕ)) → sum_at f q (l ++ m) ≡ sum_at f q l + sum_at f q m
  sum_both l m = sum_by-append gives l m

  pub sum_in_both : (gs hs : List StoreHistory) → sum_in (gs ++ hs) ≡ sum_in gs + sum_in hs
  sum_in_both gs hs = sum_by-append (λ (h : StoreHistory). sum_at f q h.1) gs hs

  -- histories without stores
  pub none_in : (hs : List StoreHistory) → ((h : StoreHistory) → In hs h → h.1 ≡ []) → sum_in hs ≡ 0
  none_in [] none = refl
  none_in (h ∷ hs) none =
      let a = sum_by-cons (λ (g : StoreHistory). sum_at f q g.1) h hs in
      let b : sum_at f q h.1 ≡ 0 = ap (sum_at f q) (none h (inl refl)) in
      let c = none_in hs (λ g i. none g (inr i)) in omega (arith, a, b, c)

  more_in : (p n : ℕ) (mine : StoreHistory) (hs : List StoreHistory) → hs ≡ mine ∷ [] → sum_in (gains_store p n hs) ≡ gives (p, n) + sum_in hs
  more_in p n mine hs one = subst (λ (l : List StoreHistory). sum_in (gains_store p n l) ≡ gives (p, n) + sum_in l) (sym one) (let a = more (p, n) mine.1 in omega (arith, a))

  gives_here : (p n m : ℕ) → p ≡ q → n ≡ m → gives (p, n) ≡ f m
  gives_here p n m e is = ap (λ (b : Bool). cond b (f n) 0) (eq-eqb p q e) ∙ ap f is

  gives_none : (p n : ℕ) → p ≢ q → gives (p, n) ≡ 0
  gives_none p n e = ap (λ (b : Bool). cond b (f n) 0) (ne_eqb p q e)

-- a racer's store
pub balanced_wrote : (k : RaceShape) (began words : List ℕ) (views : List View) (id : ℕ) (v : View) (p n : ℕ) (mine : StoreHistory) → p < length words → get_elem? views id ≡ some v → v.histories ≡ mine ∷ []
    → Balanced k began words views → Balanced k began (set words p n) (set views id (wrote v p n (get_or words p 0)))
balanced_wrote k began words views id v p n mine short at one h f q first now lt was is = pick (ℕ_discrete p q)
  where
    m : ℕ
    m = get_or words p 0

    w : View
    w = wrote v p n m

    a : total (stored_sum f q) (set views id w) + stored_sum f q v ≡ total (stored_sum f q) views + stored_sum f q w
    a = total_set (stored_sum f q) views id v w at

    b : total (overwritten_sum f q) (set views id w) + overwritten_sum f q v ≡ total (overwritten_sum f q) views + overwritten_sum f q w
    b = total_set (overwritten_sum f q) views id v w at

    stored : stored_sum f q w ≡ gives f q (p, n) + stored_sum f q v
    stored = more_in f q p n mine v.histories one

    over : overwritten_sum f q w ≡ gives f q (p, m) + overwritten_sum f q v
    over = more f q (p, m) v.overwritten

    pick : Dec (p ≡ q) → total (stored_sum f q) (set views id w) + f first ≡ total (overwritten_sum f q) (set views id w) + f now
    pick (yes e) =
        let t = h f q first m lt was (subst (λ (i : ℕ). get_elem? words i ≡ some m) e (read_at words p short)) in
        let here : n ≡ now = some-injective n now (sym (set_here words p n short) ∙ subst (λ (i : ℕ). get_elem? (set words p n) i ≡ some now) (sym e) is) in
        let c = gives_here f q p n now e here in
        let d = gives_here f q p m m e refl in omega (arith, a, b, stored, over, t, c, d)
    pick (no ne) =
        let t = h f q first now lt was (sym (set_else words p q n (λ e. ne (sym e))) ∙ is) in
        let c = gives_none f q p n ne in
        let d = gives_none f q p m ne in omega (arith, a, b, stored, over, t, c, d)

-- the seats' stores and overwrites add up to what they did
pub balance_same : (k : RaceShape) (began words new : List ℕ) (views after : List View) → SameSlots k words new → ((f : ℕ → ℕ) (q : ℕ) → total (stored_sum f q) after ≡ total (stored_sum f q) views)
    → ((f : ℕ → ℕ) (q : ℕ) → total (overwritten_sum f q) after ≡ total (overwritten_sum f q) views) → Balanced k began words views → Balanced k began new after
balance_same k began words new views after slots stores over h f q first now lt was is =
    let t = h f q first now lt was (slots q now lt is) in omega (arith, stores f q, over f q, t)

-- a step that stores nothing
balance_stays : (k : RaceShape) (began words new : List ℕ) (views : List View) (id : ℕ) (v w : View) → get_elem? views id ≡ some v → v.histories ≡ w.histories → v.overwritten ≡ w.overwritten
    → SameSlots k words new → Balanced k began words views → Balanced k began new (set views id w)
balance_stays k began words new views id v w at same over slots = balance_same k began words new views (set views id w) slots (λ f q. total_same (stored_sum f q) views id v w at (ap (sum_in f q) same)) (λ f q. total_same (overwritten_sum f q) views id v w at (ap (sum_at f q) over))

-- the race after a step of a party that stores nothing: what the step may change is given
pub raced_step : (begun : Begun) (words new : List ℕ) (views : List View) (id : ℕ) (v w : View) → get_elem? views id ≡ some v → v.weight ≡ 1 → (w.weight ≡ v.weight) × (v.spare ≡ w.spare) × (v.histories ≡ w.histories) × (v.overwritten ≡ w.overwritten) → length new ≡ length words → SameSlots begun.shape words new
    → Covered begun.shape begun.pairs new (set views id w) → Recorded begun.shape begun.words (set views id w) → PairsKept begun.shape begun.pairs new (set views id w) → Claimed begun.shape begun.words new (set views id w) → MarksCounted begun.shape begun.words new (set views id w) → Flagged begun.shape new (set views id w)
    → Raced begun words views → Raced begun new (set views id w)
raced_step begun words new views id v w at one (weight, spare, stores, over) len slots covered recorded kept claimed counted flagged h = record {
  sized = len ∙ h.sized;
  bounded = bounded_same begun.shape words new slots h.bounded;
  covered = covered;
  weighed = weighed_step begun.shape views id v w at one (weight ∙ one) h.weighed;
  numbered = numbers_stay begun.shape views id v w at spare stores h.numbered;
  stored = stores_stay begun.shape begun.words words new views id v w at stores slots h.stored;
  balanced = balance_stays begun.shape begun.words words new views id v w at stores over slots h.balanced;
  recorded = recorded;
  kept = kept;
  claimed = claimed;
  counted = counted;
  flagged = flagged;
}
