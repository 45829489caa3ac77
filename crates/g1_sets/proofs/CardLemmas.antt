-- A list of cards in which one or several others are inserted.
use Rattle.std.specs.Prelude.{◌≡◌, ◌⊎◌, ◌∷◌, ◌++◌, if◌then◌else◌}
use Rattle.g1_sets.specs.{inl, inr, ℕ, zero, suc, Bool, true, false, List, [], get_or, refl, sym, ap, ◌∙◌, subst, arith, Contains, All, nat_eq, nat_eq_equiv, IsDistinct, list_any, eqb-true, true≢false, Contains-append_left, Contains-push, Contains-push_cases, Contains-get_or, All-contains, All-push, IsDistinct-push, with_card, with_cards}
use Rattle.std.proofs.lemmas.Map.Views.{Contains-from_any, list_any-from_Contains}

-- the test finds just the cards of the list
pub in_list : (cards : List ℕ) (card : ℕ) → list_any (nat_eq card) cards ≡ true → Contains cards card
in_list cards card = Contains-from_any eqb-true card cards

pub to_list : (cards : List ℕ) (card : ℕ) → Contains cards card → list_any (nat_eq card) cards ≡ true
to_list cards card = list_any-from_Contains nat_eq_equiv card cards

pub has_cases : (xs : List ℕ) (x : ℕ) → Contains xs x ⊎ (Contains xs x → ⊥)
has_cases xs x = by (list_any (nat_eq x) xs) refl
  where
    by : (b : Bool) → list_any (nat_eq x) xs ≡ b → Contains xs x ⊎ (Contains xs x → ⊥)
    by true e = inl (in_list xs x e)
    by false e = inr (λ h. true≢false (sym (to_list xs x h) ∙ e))

module _ (cards : List ℕ) (card : ℕ) where
  pub with_card-there : list_any (nat_eq card) cards ≡ true → with_card cards card ≡ cards
  with_card-there e = ap (λ b. if b then cards else cards ++ card ∷ []) e

  pub with_card-new : list_any (nat_eq card) cards ≡ false → with_card cards card ≡ cards ++ card ∷ []
  with_card-new e = ap (λ b. if b then cards else cards ++ card ∷ []) e

  -- what holds of the list with the card there, and of the list with the card last, holds after the insert
  pub with_card_by : (P : List ℕ → Type 0) → (Contains cards card → P cards) → (list_any (nat_eq card) cards ≡ false → P (cards ++ card ∷ [])) → P (with_card cards card)
  with_card_by P there new = by (list_any (nat_eq card) cards) refl
    where
      by : (b : Bool) → list_any (nat_eq card) cards ≡ b → P (with_card cards card)
      by true e = subst P (sym (with_card-there e)) (there (in_list cards card e))
      by false e = subst P (sym (with_card-new e)) (new e)

  pub Contains-with_card : Contains (with_card cards card) card
  Contains-with_card = with_card_by (λ cs. Contains cs card) (λ h. h) (λ _. Contains-push cards card)

  pub Contains-with_card_old : (c : ℕ) → Contains cards c → Contains (with_card cards card) c
  Contains-with_card_old c h = with_card_by (λ cs. Contains cs c) (λ _. h) (λ _. Contains-append_left cards (card ∷ []) c h)

  pub Contains-with_card_cases : (c : ℕ) → Contains (with_card cards card) c → Contains cards c ⊎ (card ≡ c)
  Contains-with_card_cases c = with_card_by (λ cs. Contains cs c → Contains cards c ⊎ (card ≡ c)) (λ _ h. inl h) (λ _ h. Contains-push_cases cards card c h)

  pub IsDistinct-with_card : IsDistinct nat_eq cards → IsDistinct nat_eq (with_card cards card)
  IsDistinct-with_card d = with_card_by (IsDistinct nat_eq) (λ _. d) (λ new. IsDistinct-push nat_eq_equiv cards card d new)

  pub All-with_card : (P : ℕ → Type 0) → All P cards → P card → All P (with_card cards card)
  All-with_card P all one = with_card_by (All P) (λ _. all) (λ _. All-push P cards card all one)

-- a second insert changes nothing
pub with_card-again : (cards : List ℕ) (card : ℕ) → with_card (with_card cards card) card ≡ with_card cards card
with_card-again cards card = with_card-there (with_card cards card) card (to_list (with_card cards card) card (Contains-with_card cards card))

-- some cards are inserted in turn
pub Contains-with_cards_old : (cards more : List ℕ) (c : ℕ) → Contains cards c → Contains (with_cards cards more) c
Contains-with_cards_old cards [] c h = h
Contains-with_cards_old cards (m ∷ more) c h = Contains-with_cards_old (with_card cards m) more c (Contains-with_card_old cards m c h)

pub Contains-with_cards : (cards more : List ℕ) (c : ℕ) → Contains more c → Contains (with_cards cards more) c
Contains-with_cards cards [] c (k, lt, e) = absurd (omega (arith, lt))
Contains-with_cards cards (m ∷ more) c (zero, lt, e) = Contains-with_cards_old (with_card cards m) more c (subst (Contains (with_card cards m)) e (Contains-with_card cards m))
Contains-with_cards cards (m ∷ more) c (suc k, lt, e) = Contains-with_cards (with_card cards m) more c (k, omega (arith, lt), e)

pub Contains-with_cards_cases : (cards more : List ℕ) (c : ℕ) → Contains (with_cards cards more) c → Contains cards c ⊎ Contains more c
Contains-with_cards_cases cards [] c h = inl h
Contains-with_cards_cases cards (m ∷ more) c h = elim (Contains-with_cards_cases (with_card cards m) more c h) [
  | inl first ↦ elim (Contains-with_card_cases cards m c first) [
    | inl before ↦ inl before
    | inr is ↦ inr (0, omega arith, is)
  ]
  | inr rest ↦ inr (suc rest.0, omega (arith, rest.1), rest.2)
]

pub IsDistinct-with_cards : (cards more : List ℕ) → IsDistinct nat_eq cards → IsDistinct nat_eq (with_cards cards more)
IsDistinct-with_cards cards [] d = d
IsDistinct-with_cards cards (m ∷ more) d = IsDistinct-with_cards (with_card cards m) more (IsDistinct-with_card cards m d)

All_by_member : (P : ℕ → Type 0) (xs : List ℕ) → ((x : ℕ) → Contains xs x → P x) → All P xs
All_by_member P xs each k d lt = each (get_or xs k d) (Contains-get_or xs k d lt)

pub All-with_cards : (P : ℕ → Type 0) (cards more : List ℕ) → All P cards → All P more → All P (with_cards cards more)
All-with_cards P cards more all also = All_by_member P (with_cards cards more) (λ c h. elim (Contains-with_cards_cases cards more c h) [
  | inl before ↦ All-contains P cards c all before
  | inr now ↦ All-contains P more c also now
])
