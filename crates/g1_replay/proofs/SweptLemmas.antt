-- Cards that were swept, one after another.
use Rattle.std.specs.Prelude.{◌≡◌, ◌<◌, ◌+◌, ◌∷◌}
use Rattle.g1_replay.specs.{ℕ, List, length, take, get_or, sym, subst, refl, All, Contains, inl, inr, Result, Ok, Err, OnOk, take_more, All-push, contains_in, in_contains}

-- where a card was refined, the others still do
pub kept_ok : {V E : Type 0} (r : Result V E) (old new : List ℕ) (card : ℕ) → new ≡ card ∷ old → OnOk r ((other : ℕ) → Contains old other → Contains new other)
kept_ok (Ok v) old new card h = λ other c. subst (λ (l : List ℕ). Contains l other) (sym h) (in_contains (card ∷ old) other (inr (contains_in old other c)))
kept_ok (Err e) old new card h = tt

-- and the card itself does, by each of its names
pub swept_ok : {V E : Type 0} (r : Result V E) (old new : List ℕ) (card asked count : ℕ) → card ≡ asked → new ≡ card ∷ old → OnOk r (asked < count → Contains new asked)
swept_ok (Ok v) old new card asked count e h = λ lt. subst (λ (k : ℕ). Contains new k) e (subst (λ (l : List ℕ). Contains l card) (sym h) (in_contains (card ∷ old) card (inl refl)))
swept_ok (Err _) old new card asked count e h = tt

-- one card more
pub swept_more : (count : ℕ) (cards old new : List ℕ) (i d : ℕ) → i < length cards → (get_or cards i d < count → Contains new (get_or cards i d)) → ((other : ℕ) → Contains old other → Contains new other)
    → All (λ card. card < count → Contains old card) (take i cards) → All (λ card. card < count → Contains new card) (take (i + 1) cards)
swept_more count cards old new i d h here stay all =
    subst (λ (l : List ℕ). All (λ card. card < count → Contains new card) l) (sym (take_more cards i d h))
    (All-push (λ card. card < count → Contains new card) (take i cards) (get_or cards i d) (λ k e lt below. stay _ (all k e lt below)) here)
