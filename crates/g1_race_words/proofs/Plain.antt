-- Lists, and what some seat's view holds.
use Rattle.std.specs.Prelude.{◌≡◌, ◌≢◌, ◌⊎◌, ◌↔◌, ◌+◌, ◌<◌, ◌≤◌, ◌∷◌, ◌++◌}
use Rattle.g1_race_words.specs.{ℕ, zero, suc, cond, List, [], length, set, get_or, Bool, true, false, refl, sym, ap, ◌∙◌, subst, inl, inr, ⊎_elim, arith, some, some-ne-none, some-injective, ℕ_discrete, get_elem?, set_here, at_set, at_snoc, set_else, at_longer, View, In, Held, OfSome, total, weigh}
use Rattle.g1_race_words.proofs.Places.{at_read, reads_as}

module _ {A : Type 0} where
  pub in_left : (xs ys : List A) (x : A) → In xs x → In (xs ++ ys) x
  in_left [] ys x h = absurd h
  in_left (y ∷ xs) ys x (inl e) = inl e
  in_left (y ∷ xs) ys x (inr h) = inr (in_left xs ys x h)

  pub in_right : (xs ys : List A) (x : A) → In ys x → In (xs ++ ys) x
  in_right [] ys x h = h
  in_right (y ∷ xs) ys x h = inr (in_right xs ys x h)

  pub in_either : (xs ys : List A) (x : A) → In (xs ++ ys) x → In xs x ⊎ In ys x
  in_either [] ys x h = inr h
  in_either (y ∷ xs) ys x (inl e) = inl (inl e)
  in_either (y ∷ xs) ys x (inr h) = ⊎_elim (λ (a : In xs x). inl (inr a)) (λ (b : In ys x). inr b) (in_either xs ys x h)

  pub one_there : (l : List A) (i : ℕ) (a b : A) → get_elem? l i ≡ some a → get_elem? l i ≡ some b → a ≡ b
  one_there l i a b e f = some-injective a b (sym e ∙ f)

  pub within : (l : List A) (i : ℕ) (a : A) → get_elem? l i ≡ some a → i < length l
  within [] i a e = absurd (some-ne-none a (sym e))
  within (x ∷ xs) zero a e = omega arith
  within (x ∷ xs) (suc i) a e = let h = within xs i a e in omega arith

  pub put_here : (l : List A) (i : ℕ) (a b : A) → get_elem? l i ≡ some a → get_elem? (set l i b) i ≡ some b
  put_here l i a b e = set_here l i b (within l i a e)

  -- a list with one value
  pub in_one : (l : List A) (x y : A) → l ≡ x ∷ [] → In l y → x ≡ y
  in_one l x y one i = elim (rw one at i) [ inl e ↦ e | inr n ↦ absurd n ]

  -- a list that gains a value, where a test says so
  pub in_cond : (b : Bool) (c x : A) (l : List A) → In l x → In (cond b (c ∷ l) l) x
  in_cond true c x l h = inr h
  in_cond false c x l h = h

  pub in_cond_back : (b : Bool) (c x : A) (l : List A) → In (cond b (c ∷ l) l) x → ((c ≡ x) × (b ≡ true)) ⊎ In l x
  in_cond_back true c x l (inl e) = inl (e, refl)
  in_cond_back true c x l (inr h) = inr h
  in_cond_back false c x l h = inr h

  pub in_cond_here : (b : Bool) (c : A) (l : List A) → b ≡ true → In (cond b (c ∷ l) l) c
  in_cond_here true c l e = inl refl
  in_cond_here false c l e = absurd (cc)

pub read_is : (l : List ℕ) (i n : ℕ) → get_elem? l i ≡ some n → get_or l i 0 ≡ n
read_is l i n = reads_as l i n 0

pub read_at : (l : List ℕ) (i : ℕ) → i < length l → get_elem? l i ≡ some (get_or l i 0)
read_at l i = at_read l i 0

-- what is so of some seat

module _ (P : View → Type 0) where
  -- one seat's view changes from v to w: it is so of some seat still, or the change gave something else
  pub some_or : (Q : Type 0) (views : List View) (id : ℕ) (v w : View) → get_elem? views id ≡ some v → (P v → Q ⊎ P w) → OfSome P views → Q ⊎ OfSome P (set views id w)
  some_or Q views id v w at f h = pick (ℕ_discrete h.0 id)
    where
      pick : Dec (h.0 ≡ id) → Q ⊎ OfSome P (set views id w)
      pick (yes e) = ⊎_elim (λ (q : Q). inl q) (λ (p : P w). inr (id, w, put_here views id v w at, p)) (f (subst P (one_there views id h.1 v (rw e at h.2) at) h.3))
      pick (no ne) = inr (h.0, h.1, set_else views id h.0 w ne ∙ h.2, h.3)

  pub some_on : (views : List View) (id : ℕ) (v w : View) → get_elem? views id ≡ some v → (P v → P w) → OfSome P views → OfSome P (set views id w)
  some_on views id v w at f h = ⊎_elim (λ (b : ⊥). absurd b) (λ (a : OfSome P (set views id w)). a) (some_or ⊥ views id v w at (λ p. inr (f p)) h)

  pub some_back : (views : List View) (id : ℕ) (w : View) → OfSome P (set views id w) → OfSome P views ⊎ P w
  some_back views id w h = ⊎_elim
      (λ (t : (h.0 ≡ id) × (w ≡ h.1)). inr (subst P (sym t.1) h.3))
      (λ (t : (h.0 ≢ id) × (get_elem? views h.0 ≡ some h.1)). inl (h.0, h.1, t.1, h.3))
      (at_set views id h.0 w h.1 h.2)

  pub some_same : (views : List View) (id : ℕ) (v w : View) → get_elem? views id ≡ some v → (P v → P w) → (P w → P v) → OfSome P views ↔ OfSome P (set views id w)
  some_same views id v w at on back = (some_on views id v w at on, λ h. ⊎_elim (λ (a : OfSome P views). a) (λ (p : P w). (id, v, at, back p)) (some_back views id w h))

  -- a seat comes
  pub some_longer : (views : List View) (w : View) → OfSome P views → OfSome P (views ++ w ∷ [])
  some_longer views w h = (h.0, h.1, at_longer views (w ∷ []) h.0 h.1 h.2, h.3)

  pub some_shorter : (views : List View) (w : View) → OfSome P (views ++ w ∷ []) → OfSome P views ⊎ P w
  some_shorter views w h = ⊎_elim (λ (was : get_elem? views h.0 ≡ some h.1). inl (h.0, h.1, was, h.3)) (λ (is : w ≡ h.1). inr (subst P (sym is) h.3)) (at_snoc views w h.1 h.0 h.2)

  pub some_comes : (views : List View) (w : View) → (P w → ⊥) → OfSome P views ↔ OfSome P (views ++ w ∷ [])
  some_comes views w none = (some_longer views w, λ h. ⊎_elim (λ (a : OfSome P views). a) (λ (p : P w). absurd (none p)) (some_shorter views w h))

  -- a seat is split off
  pub some_splits : (views : List View) (id : ℕ) (v left right : View) → get_elem? views id ≡ some v → (P v → P left) → (P left → P v) → (P right → ⊥) → OfSome P views ↔ OfSome P (set views id left ++ right ∷ [])
  some_splits views id v left right at on back none = let same = some_same views id v left at on back in let more = some_comes (set views id left) right none in (λ h. more.0 (same.0 h), λ h. same.1 (more.1 h))

  -- a seat takes in another
  module _ (views : List View) (id other : ℕ) (v u w spent : View) (at : get_elem? views id ≡ some v) (apart : ¬ (other ≡ id)) (there : get_elem? (set views id w) other ≡ some u) where
    pub some_joined : (P v → P w) → (P u → P w) → OfSome P views → OfSome P (set (set views id w) other spent)
    some_joined on_v on_u h = let After = OfSome P (set (set views id w) other spent) in ⊎_elim (λ (a : After). a) (λ (a : After). a)
        (some_or After (set views id w) other u spent there (λ p. inl (id, w, set_else (set views id w) other id spent (λ k. apart (sym k)) ∙ put_here views id v w at, on_u p)) (some_on views id v w at on_v h))

    pub some_joins : (P v → P w) → (P u → P w) → (P w → P v ⊎ P u) → (P spent → ⊥) → OfSome P views ↔ OfSome P (set (set views id w) other spent)
    some_joins on_v on_u back none = (
      some_joined on_v on_u,
      λ h. ⊎_elim
          (λ (a : OfSome P (set views id w)). ⊎_elim (λ (b : OfSome P views). b) (λ (p : P w). ⊎_elim (λ (q : P v). (id, v, at, q)) (λ (q : P u). (other, u, sym (set_else views id other w apart) ∙ there, q)) (back p)) (some_back views id w a))
          (λ (p : P spent). absurd (none p))
          (some_back (set views id w) other spent h),
    )

-- what is so of each seat

pub each_set : (views : List View) (id : ℕ) (w : View) (P : View → Type 0) → ((seat : ℕ) (v : View) → get_elem? views seat ≡ some v → ¬ (seat ≡ id) → P v) → P w → (seat : ℕ) (v : View) → get_elem? (set views id w) seat ≡ some v → P v
each_set views id w P h p seat v at = ⊎_elim (λ (t : (seat ≡ id) × (w ≡ v)). subst P t.1 p) (λ (t : (seat ≢ id) × (get_elem? views seat ≡ some v)). h seat v t.1 t.0) (at_set views id seat w v at)

pub each_snoc : (views : List View) (w : View) (P : View → Type 0) → ((seat : ℕ) (v : View) → get_elem? views seat ≡ some v → P v) → P w → (seat : ℕ) (v : View) → get_elem? (views ++ w ∷ []) seat ≡ some v → P v
each_snoc views w P h p seat v at = ⊎_elim (λ (was : get_elem? views seat ≡ some v). h seat v was) (λ (is : w ≡ v). subst P is p) (at_snoc views w v seat at)

-- what some seat holds

module _ {A : Type 0} (f : View → List A) where
  -- what was held still is, and nothing else
  abbrev pub SameHeld : List View → List View → Type 0
  SameHeld views after = (x : A) → Held f views x ↔ Held f after x

  abbrev Has : A → View → Type 0
  Has x u = In (f u) x

  pub held_on : (views : List View) (id : ℕ) (v w : View) → get_elem? views id ≡ some v → ((x : A) → In (f v) x → In (f w) x) → (x : A) → Held f views x → Held f (set views id w) x
  held_on views id v w at sub x = some_on (Has x) views id v w at (sub x)

  pub held_back : (views : List View) (id : ℕ) (w : View) (x : A) → Held f (set views id w) x → Held f views x ⊎ In (f w) x
  held_back views id w x = some_back (Has x) views id w

  pub held_same : (views : List View) (id : ℕ) (v w : View) → get_elem? views id ≡ some v → f v ≡ f w → SameHeld views (set views id w)
  held_same views id v w at e x = some_same (Has x) views id v w at (λ i. rw e at i) (λ i. rw (← e) at i)

  pub held_more : (views : List View) (w : View) → f w ≡ [] → SameHeld views (views ++ w ∷ [])
  held_more views w none x = some_comes (Has x) views w (λ i. rw none at i)

  pub held_split : (views : List View) (id : ℕ) (v left right : View) → get_elem? views id ≡ some v → f v ≡ f left → f right ≡ [] → SameHeld views (set views id left ++ right ∷ [])
  held_split views id v left right at e none x = some_splits (Has x) views id v left right at (λ i. rw e at i) (λ i. rw (← e) at i) (λ i. rw none at i)

  pub held_join : (views : List View) (id : ℕ) (v u w spent : View) (other : ℕ) → get_elem? views id ≡ some v → ¬ (other ≡ id) → get_elem? (set views id w) other ≡ some u
      → f w ≡ f v ++ f u → f spent ≡ [] → SameHeld views (set (set views id w) other spent)
  held_join views id v u w spent other at apart there e none x = some_joins (Has x) views id other v u w spent at apart there
      (λ i. rw e (in_left (f v) (f u) x i)) (λ i. rw e (in_right (f v) (f u) x i)) (λ i. in_either (f v) (f u) x (rw e at i)) (λ i. rw none at i)

-- the weight of the views

pub total_set : (f : View → ℕ) (views : List View) (id : ℕ) (v w : View) → get_elem? views id ≡ some v → total f (set views id w) + f v ≡ total f views + f w
total_set f [] id v w at = absurd (some-ne-none v (sym at))
total_set f (u ∷ us) zero v w at = let e : f u ≡ f v = ap f (some-injective u v at) in omega arith
total_set f (u ∷ us) (suc id) v w at = let e = total_set f us id v w at in omega arith

pub total_same : (f : View → ℕ) (views : List View) (id : ℕ) (v w : View) → get_elem? views id ≡ some v → f v ≡ f w → total f (set views id w) ≡ total f views
total_same f views id v w at e = let a = total_set f views id v w at in omega (arith, a, e)

pub total_snoc : (f : View → ℕ) (views : List View) (w : View) → total f (views ++ w ∷ []) ≡ total f views + f w
total_snoc f [] w = omega arith
total_snoc f (u ∷ us) w = let e = total_snoc f us w in omega arith

pub total_none : (f : View → ℕ) (views : List View) → ((seat : ℕ) (u : View) → get_elem? views seat ≡ some u → f u ≡ 0) → total f views ≡ 0
total_none f [] none = refl
total_none f (u ∷ us) none = let a = none 0 u refl in let b = total_none f us (λ seat x at. none (suc seat) x at) in omega arith

pub total_one : (f : View → ℕ) (views : List View) (id : ℕ) (v : View) → get_elem? views id ≡ some v → f v ≤ total f views
total_one f [] id v at = absurd (some-ne-none v (sym at))
total_one f (u ∷ us) zero v at = let e : f u ≡ f v = ap f (some-injective u v at) in omega arith
total_one f (u ∷ us) (suc id) v at = let e = total_one f us id v at in omega arith

-- two seats together have no more than all
pub total_two : (f : View → ℕ) (views : List View) (i j : ℕ) (u v : View) → get_elem? views i ≡ some u → get_elem? views j ≡ some v → ¬ (i ≡ j) → f u + f v ≤ total f views
total_two f [] i j u v at there apart = absurd (some-ne-none u (sym at))
total_two f (x ∷ xs) zero zero u v at there apart = absurd (apart refl)
total_two f (x ∷ xs) zero (suc j) u v at there apart = let a : f x ≡ f u = ap f (some-injective x u at) in let b = total_one f xs j v there in omega arith
total_two f (x ∷ xs) (suc i) zero u v at there apart = let a : f x ≡ f v = ap f (some-injective x v there) in let b = total_one f xs i u at in omega arith
total_two f (x ∷ xs) (suc i) (suc j) u v at there apart = let b = total_two f xs i j u v at there (λ k. apart (ap suc k)) in omega arith

-- where one seat has all the weight, no other has any
pub weigh_all : (views : List View) (id other : ℕ) (v u : View) → get_elem? views id ≡ some v → get_elem? views other ≡ some u → ¬ (other ≡ id) → weigh views ≡ v.weight → u.weight ≡ 0
weigh_all views id other v u at there apart e = let b : v.weight + u.weight ≤ weigh views = total_two (λ (y : View). y.weight) views id other v u at there (λ k. apart (sym k)) in omega arith

pub true_is : {A : Type 0} (b : Bool) (x y : A) → b ≡ true → cond b x y ≡ x
true_is true x y e = refl
true_is false x y e = absurd (cc)

pub false_is : {A : Type 0} (b : Bool) (x y : A) → b ≡ false → cond b x y ≡ y
false_is true x y e = absurd (cc)
false_is false x y e = refl
