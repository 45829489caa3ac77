-- Lists by place.
use Rattle.std.specs.Prelude.{◌≡◌, ◌+◌, ◌<◌, ◌≤◌, ◌∷◌, ◌++◌}
use Rattle.g1_race_words.specs.{ℕ, zero, suc, List, [], length, map, take, drop, get_or, Contains, refl, sym, ap, ◌∙◌, subst, inl, inr, arith, some, some-ne-none, some-injective, get_elem?, In}
use Rattle.std.proofs.Common.{take_all as all_taken}

module _ {A : Type 0} where
  pub at_untake : (l : List A) (n i : ℕ) (a : A) → get_elem? (take n l) i ≡ some a → (i < n) × (get_elem? l i ≡ some a)
  at_untake l zero i a e = absurd (some-ne-none a (sym e))
  at_untake [] (suc n) i a e = absurd (some-ne-none a (sym e))
  at_untake (x ∷ xs) (suc n) zero a e = (omega arith, e)
  at_untake (x ∷ xs) (suc n) (suc i) a e = let h = at_untake xs n i a e in let lt : i < n = h.0 in (omega arith, h.1)

  pub take_at : (l : List A) (n i : ℕ) → i < n → get_elem? (take n l) i ≡ get_elem? l i
  take_at l zero i lt = absurd (omega arith)
  take_at [] (suc n) i lt = refl
  take_at (x ∷ xs) (suc n) zero lt = refl
  take_at (x ∷ xs) (suc n) (suc i) lt = take_at xs n i (omega arith)

  pub at_take : (l : List A) (n i : ℕ) (a : A) → i < n → get_elem? l i ≡ some a → get_elem? (take n l) i ≡ some a
  at_take l n i a lt e = take_at l n i lt ∙ e

  pub take_same : (l m : List A) (n : ℕ) → ((i : ℕ) → i < n → get_elem? l i ≡ get_elem? m i) → take n l ≡ take n m
  take_same l m zero h = refl
  take_same [] [] (suc n) h = refl
  take_same [] (y ∷ ys) (suc n) h = absurd (some-ne-none y (sym (h 0 (omega arith))))
  take_same (x ∷ xs) [] (suc n) h = absurd (some-ne-none x (h 0 (omega arith)))
  take_same (x ∷ xs) (y ∷ ys) (suc n) h = let a = some-injective x y (h 0 (omega arith)) in let b = take_same xs ys n (λ i lt. h (suc i) (omega arith)) in λ i. a i ∷ b i

  pub at_drop : (l : List A) (n i j : ℕ) (a : A) → j ≡ n + i → get_elem? l j ≡ some a → get_elem? (drop n l) i ≡ some a
  at_drop [] n i j a is e = absurd (some-ne-none a (sym e))
  at_drop (x ∷ xs) zero i j a is e = subst (λ (k : ℕ). get_elem? (x ∷ xs) k ≡ some a) (let f : j ≡ i = omega arith in f) e
  at_drop (x ∷ xs) (suc n) i zero a is e = absurd (omega arith)
  at_drop (x ∷ xs) (suc n) i (suc j) a is e = at_drop xs n i j a (omega arith) e

  pub at_unmap : {B : Type 0} (f : A → B) (l : List A) (i : ℕ) (b : B) → get_elem? (map f l) i ≡ some b → (a : A) × (get_elem? l i ≡ some a) × (f a ≡ b)
  at_unmap f [] i b e = absurd (some-ne-none b (sym e))
  at_unmap f (x ∷ xs) zero b e = (x, refl, some-injective (f x) b e)
  at_unmap f (x ∷ xs) (suc i) b e = at_unmap f xs i b e

  pub at_read : (l : List A) (i : ℕ) (d : A) → i < length l → get_elem? l i ≡ some (get_or l i d)
  at_read [] i d h = absurd (omega arith)
  at_read (x ∷ xs) zero d h = refl
  at_read (x ∷ xs) (suc i) d h = at_read xs i d (omega arith)

  take_suc : (l : List A) (j : ℕ) (a : A) → get_elem? l j ≡ some a → take (suc j) l ≡ take j l ++ a ∷ []
  take_suc [] j a e = absurd (some-ne-none a (sym e))
  take_suc (x ∷ xs) zero a e = ap (λ y. y ∷ []) (some-injective x a e)
  take_suc (x ∷ xs) (suc j) a e = ap (λ l. x ∷ l) (take_suc xs j a e)

  pub take_next : (l : List A) (j : ℕ) (a : A) → get_elem? l j ≡ some a → take (j + 1) l ≡ take j l ++ a ∷ []
  take_next l j a e = ap (λ (n : ℕ). take n l) (let f : j + 1 ≡ suc j = omega arith in f) ∙ take_suc l j a e

  pub take_all : (l : List A) (n : ℕ) → length l ≤ n → take n l ≡ l
  take_all l n le = all_taken n l le

  pub in_contains : (xs : List A) (x : A) → In xs x → Contains xs x
  in_contains [] x i = absurd i
  in_contains (y ∷ ys) x (inl e) = (0, omega arith, e)
  in_contains (y ∷ ys) x (inr i) = let c = in_contains ys x i in let lt : c.0 < length ys = c.1 in (suc c.0, omega arith, c.2)

  contains_at : (xs : List A) (x : A) (k : ℕ) → k < length xs → get_or xs k x ≡ x → In xs x
  contains_at [] x k lt e = absurd (omega arith)
  contains_at (y ∷ ys) x zero lt e = inl e
  contains_at (y ∷ ys) x (suc k) lt e = inr (contains_at ys x k (omega arith) e)

  pub contains_in : (xs : List A) (x : A) → Contains xs x → In xs x
  contains_in xs x c = contains_at xs x c.0 c.1 c.2

pub reads_as : {A : Type 0} (l : List A) (i : ℕ) (a d : A) → get_elem? l i ≡ some a → get_or l i d ≡ a
reads_as [] i a d e = absurd (some-ne-none a (sym e))
reads_as (x ∷ xs) zero a d e = some-injective x a e
reads_as (x ∷ xs) (suc i) a d e = reads_as xs i a d e
