-- A sweeper reads a slot.
use Rattle.std.specs.Prelude.{◌≡◌, ◌⊎◌, ◌<◌, ◌∷◌}
use Rattle.g1_race_words.specs.{ℕ, eqb, List, [], length, set, get_or, true, Some, None, refl, sym, ◌∙◌, subst, inl, inr, ⊎_elim, arith, eq-eqb, ne_eqb, some, ℕ_discrete, get_elem?, RaceShape, View, Begun, BeganInto, slot_card, region_at, crosses, IsCrossing, In, Held, StoreHistory, histories_of, claims_of, cleanings_of, pairs_found, last_to, Bounded, SlotsStored, StoredInto, Recorded, Raced, pair_at, read, Sits}
use Rattle.g1_race_words.proofs.Crossing.{word_low}
use Rattle.g1_race_words.proofs.Plain.{in_cond_back, in_either, read_at, true_is, false_is, held_back, held_same}
use Rattle.g1_race_words.proofs.CoverSweeps.{covered_read}
use Rattle.g1_race_words.proofs.Keeping.{kept_read}
use Rattle.g1_race_words.proofs.Flags.{flags_stay}
use Rattle.g1_race_words.proofs.Balance.{raced_step}
use Rattle.g1_race_words.proofs.Unchanged.{same_slots, still_into, claimed_same, counted_stays}

pub last_in : (p n : ℕ) (h : List (ℕ × ℕ)) → last_to p h ≡ Some n → In h (p, n)
last_in p n [] e = absurd (cc)
last_in p n (x ∷ xs) e = pick (λ f. last_in p n xs f) (ℕ_discrete x.0 p)
  where
    pick : (last_to p xs ≡ Some n → In xs (p, n)) → Dec (x.0 ≡ p) → In (x ∷ xs) (p, n)
    pick more (yes k) = let f : Some x.1 ≡ Some n = sym (true_is (eqb x.0 p) (Some x.1) (last_to p xs) (eq-eqb x.0 p k)) ∙ e in let m : x.1 ≡ n = cc in inl (λ i. (k i, m i))
    pick more (no k) = inr (more (sym (false_is (eqb x.0 p) (Some x.1) (last_to p xs) (ne_eqb x.0 p k)) ∙ e))

pair_back : (k : RaceShape) (p n : ℕ) (x : ℕ × ℕ) → In (pair_at k p n) x → (crosses k p n ≡ true) × ((slot_card k p, region_at k n) ≡ x)
pair_back k p n x i = elim (in_cond_back (crosses k p n) (slot_card k p, region_at k n) x [] i) [ inl t ↦ (t.1, t.0) | inr n ↦ absurd n ]

pub null_stays : (k : RaceShape) (p n : ℕ) → n ≡ 0 → crosses k p n ≡ true → ⊥
null_stays k p n e cr = let f : crosses k p 0 ≡ true = subst (λ (m : ℕ). crosses k p m ≡ true) e cr in absurd (cc f)

recorded_read : (k : RaceShape) (began : List ℕ) (words : List ℕ) (views : List View) (id : ℕ) (v : View) (p : ℕ) → v.shape ≡ k → p < k.slots → p < length words → get_elem? views id ≡ some v
    → Bounded k words → SlotsStored k began words views → Recorded k began views → Recorded k began (set views id (read v p (get_or words p 0)))
recorded_read k began words views id v p shape lt short at bounded stored h x held = ⊎_elim
    (λ (a : Held pairs_found views x). on (h x a))
    (λ (i : In w.pairs x). ⊎_elim (λ (a : In v.pairs x). on (h x (id, v, at, a))) (λ (a : In (pair_at v.shape p n) x). on (new a)) (in_either v.pairs (pair_at v.shape p n) x i))
    (held_back pairs_found views id w x held)
  where
    n : ℕ
    n = get_or words p 0

    w : View
    w = read v p n

    on : StoredInto k views x ⊎ BeganInto k began x → StoredInto k (set views id w) x ⊎ BeganInto k began x
    on = still_into k began views (set views id w) (λ g. (held_same histories_of views id v w at refl g).0) x

    new : In (pair_at v.shape p n) x → StoredInto k views x ⊎ BeganInto k began x
    new a = let b = pair_back k p n x (subst (λ (s : RaceShape). In (pair_at s p n) x) shape a) in let is : IsCrossing k p n = (lt, word_low k p n (bounded p n lt (read_at words p short)) b.0, b.0) in ⊎_elim
        (λ (y : (g : StoreHistory) × Held histories_of views g × (last_to p g.1 ≡ Some n)). inl (y.0, p, n, y.1, last_in p n y.0.1 y.2, is, b.1))
        (λ (y : (get_elem? began p ≡ some n) × ((g : StoreHistory) → Held histories_of views g → last_to p g.1 ≡ None)). inr (p, n, y.0, is, b.1))
        (stored p n lt (read_at words p short))

pub raced_read : (begun : Begun) (words : List ℕ) (views : List View) (id : ℕ) (v : View) (p : ℕ) → Sits begun.shape v → v.held ≡ [] → v.next ≡ p → p < begun.shape.slots
    → get_elem? views id ≡ some v → Raced begun words views → Raced begun words (set views id (read v p (get_or words p 0)))
raced_read begun words views id v p sits free next lt at h = let w = read v p (get_or words p 0) in raced_step begun words words views id v w at sits.weight (refl, refl, refl, refl) refl (same_slots begun.shape words)
    (covered_read begun.shape begun.pairs words views id v p sits.shape next at h.covered)
    (recorded_read begun.shape begun.words words views id v p sits.shape lt (omega (arith, h.sized)) at h.bounded h.stored h.recorded)
    (kept_read begun.shape begun.pairs words views id v p (get_or words p 0) free at h.kept)
    (claimed_same begun.shape begun.words words words views (set views id w) (λ c. refl) (held_same claims_of views id v w at refl) (held_same cleanings_of views id v w at refl) h.claimed)
    (counted_stays begun.shape begun.words words words views id v w at refl refl (λ c. refl) h.counted)
    (flags_stay begun.shape words words views id v w at refl (λ c below m. m) (λ c b. b) h.flagged) h
