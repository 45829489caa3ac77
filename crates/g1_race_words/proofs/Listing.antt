-- The pairs whose bits are set, as a list.
use Rattle.std.specs.Prelude.{◌≡◌, ◌<◌, ◌∷◌, ◌++◌}
use Rattle.g1_race_words.specs.{ℕ, zero, suc, cond, eqb, List, [], Contains, refl, subst, inl, inr, ⊎_elim, arith, eq-eqb, eqb-true, ne_eqb, cases_eq, slice_index, bit_at, RaceShape, In, IsPair, HasBit, bit_word, bit_index, pairs_of_card, pairs_up_to}
use Rattle.g1_race_words.proofs.Plain.{in_cond_back, in_left, in_right, in_either, true_is, false_is}
use Rattle.g1_race_words.proofs.Places.{in_contains, contains_in}

-- a list of lists, put together one after the other
module _ {A : Type 0} (up part : ℕ → List A) where
  up_back : up 0 ≡ [] → ((n : ℕ) → up (suc n) ≡ up n ++ part n) → (n : ℕ) (x : A) → In (up n) x → (i : ℕ) × (i < n) × In (part i) x
  up_back none more zero x i = absurd (rw none at i)
  up_back none more (suc n) x i = ⊎_elim
      (λ (a : In (up n) x). let h = up_back none more n x a in let lt : h.0 < n = h.1 in (h.0, omega arith, h.2))
      (λ (a : In (part n) x). (n, omega arith, a))
      (in_either (up n) (part n) x (rw (more n) at i))

  up_on : ((n : ℕ) → up (suc n) ≡ up n ++ part n) → (n i : ℕ) (x : A) → i < n → In (part i) x → In (up n) x
  up_on more zero i x lt a = absurd (omega arith)
  up_on more (suc n) i x lt a = rw (more n) (elim (cases_eq i n) [ inl e ↦ in_right (up n) (part n) x (rw e at a) | inr ne ↦ in_left (up n) (part n) x (up_on more n i x (omega arith) a) ])

module _ (k : RaceShape) (words : List ℕ) where
  abbrev bit : ℕ × ℕ → ℕ
  bit x = bit_at (slice_index words (bit_word k x)) (bit_index k x)

  -- a pair, where its bit is set
  abbrev pub one_pair : ℕ × ℕ → List (ℕ × ℕ)
  one_pair x = cond (eqb (bit x) 1) (x ∷ []) []

  pub pair_set : (x : ℕ × ℕ) → bit x ≡ 1 → one_pair x ≡ x ∷ []
  pair_set x e = true_is (eqb (bit x) 1) (x ∷ []) [] (eq-eqb (bit x) 1 e)

  pub pair_clear : (x : ℕ × ℕ) → (bit x ≡ 1 → ⊥) → one_pair x ≡ []
  pair_clear x ne = false_is (eqb (bit x) 1) (x ∷ []) [] (ne_eqb (bit x) 1 ne)

  one_back : (x y : ℕ × ℕ) → In (one_pair x) y → (x ≡ y) × HasBit k words x
  one_back x y i = elim (in_cond_back (eqb (bit x) 1) x y [] i) [ inl t ↦ (t.0, eqb-true (bit x) 1 t.1) | inr n ↦ absurd n ]

  pub in_set : (x : ℕ × ℕ) → In (pairs_up_to k words k.cards) x → IsPair k x × HasBit k words x
  in_set x i =
      let h = up_back (pairs_up_to k words) (λ c. pairs_of_card k words c k.regions) refl (λ n. refl) k.cards x i in
      let g = up_back (pairs_of_card k words h.0) (λ r. one_pair (h.0, r)) refl (λ n. refl) k.regions x h.2 in
      let b = one_back (h.0, g.0) x g.2 in subst (λ (y : ℕ × ℕ). IsPair k y × HasBit k words y) b.0 ((h.1, g.1), b.1)

  pub set_in : (x : ℕ × ℕ) → IsPair k x → HasBit k words x → In (pairs_up_to k words k.cards) x
  set_in x pair b = up_on (pairs_up_to k words) (λ c. pairs_of_card k words c k.regions) (λ n. refl) k.cards x.0 x pair.0
      (up_on (pairs_of_card k words x.0) (λ r. one_pair (x.0, r)) (λ n. refl) k.regions x.1 x pair.1 (rw (pair_set x b) (inl refl)))

  pub listed_set : (x : ℕ × ℕ) → Contains (pairs_up_to k words k.cards) x → IsPair k x × HasBit k words x
  listed_set x c = in_set x (contains_in (pairs_up_to k words k.cards) x c)

  pub set_listed : (x : ℕ × ℕ) → IsPair k x → HasBit k words x → Contains (pairs_up_to k words k.cards) x
  set_listed x pair b = in_contains (pairs_up_to k words k.cards) x (set_in x pair b)
