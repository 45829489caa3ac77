-- How often the numbers of racers stand in the views, and a card in a list.
use Rattle.std.specs.Prelude.{◌≡◌, ◌≢◌, ◌⊎◌, ◌+◌, ◌<◌, ◌≤◌, ◌∷◌, ◌++◌, ◌-◌}
use Rattle.g1_race_words.specs.{ℕ, zero, suc, List, [], refl, sym, ap, ◌∙◌, inl, inr, ⊎_elim, cases_lt, cases_eq, arith, eqb, eq-eqb, ne_eqb, nat_lt, View, In, StoreHistory, as_number, tally, numbers, times, gains_store, after_split, new_racer, new_sweeper}
use Rattle.std.proofs.Common.{lt-ltb, le-ltb}

-- what a test counts

below_is : (m n : ℕ) → ((m < n) × (as_number (nat_lt m n) ≡ 1)) ⊎ ((n ≤ m) × (as_number (nat_lt m n) ≡ 0))
below_is m n = ⊎_elim (λ (lt : m < n). inl (lt, ap as_number (lt-ltb m n lt))) (λ (le : n ≤ m). inr (le, ap as_number (le-ltb m n le))) (cases_lt m n)

pub same_is : (m n : ℕ) → ((m ≡ n) × (as_number (eqb m n) ≡ 1)) ⊎ ((m ≢ n) × (as_number (eqb m n) ≡ 0))
same_is m n = ⊎_elim (λ (e : m ≡ n). inl (e, ap as_number (eq-eqb m n e))) (λ (ne : m ≢ n). inr (ne, ap as_number (ne_eqb m n ne))) (cases_eq m n)

pub tally_append : (m : ℕ) (hs gs : List StoreHistory) → tally m (hs ++ gs) ≡ tally m hs + tally m gs
tally_append m [] gs = omega arith
tally_append m (h ∷ hs) gs = let e = tally_append m hs gs in omega arith

pub tally_gained : (m p n : ℕ) (hs : List StoreHistory) → tally m (gains_store p n hs) ≡ tally m hs
tally_gained m p n [] = refl
tally_gained m p n (h ∷ hs) = refl

pub tally_in : (m : ℕ) (h : List (ℕ × ℕ)) (hs : List StoreHistory) → In hs (m, h) → 1 ≤ tally m hs
tally_in m h [] i = absurd i
tally_in m h (g ∷ gs) (inl e) = let f : m ≡ g.0 = sym (ap (λ (x : StoreHistory). x.0) e) in omega (arith, f, same_is m g.0)
tally_in m h (g ∷ gs) (inr i) = let e = tally_in m h gs i in omega arith

-- of two histories with one number, both are one where the number stands once
pub tally_once : (m : ℕ) (g h : List (ℕ × ℕ)) (hs : List StoreHistory) → tally m hs ≤ 1 → In hs (m, g) → In hs (m, h) → g ≡ h
tally_once m g h [] le a b = absurd a
tally_once m g h (x ∷ xs) le (inl e) (inl f) = ap (λ (y : StoreHistory). y.1) (sym e ∙ f)
tally_once m g h (x ∷ xs) le (inl e) (inr b) = absurd (let k : m ≡ x.0 = sym (ap (λ (y : StoreHistory). y.0) e) in let l = tally_in m h xs b in omega (arith, k, l, same_is m x.0))
tally_once m g h (x ∷ xs) le (inr a) (inl f) = absurd (let k : m ≡ x.0 = sym (ap (λ (y : StoreHistory). y.0) f) in let l = tally_in m g xs a in omega (arith, k, l, same_is m x.0))
tally_once m g h (x ∷ xs) le (inr a) (inr b) = tally_once m g h xs (omega arith) a b

pub none_below : (m : ℕ) → as_number (nat_lt m 0) ≡ 0
none_below m = omega (arith, below_is m 0)

pub below_up_to : (m n l : ℕ) → n ≤ l → as_number (nat_lt m n) ≤ as_number (nat_lt m l)
below_up_to m n l le = omega (arith, below_is m n, below_is m l)

pub numbers_none : (m : ℕ) (v : View) → v.histories ≡ [] → v.spare ≡ 0 → numbers m v ≡ 0
numbers_none m v none few = ap (λ (x : ℕ × List StoreHistory). as_number (nat_lt m x.0) + tally m x.1) (λ i. (few i, none i)) ∙ (let z = none_below m in omega (arith, z))

-- a number that is cut off stands with one of two
pub below_split : (m n : ℕ) → 0 < n → as_number (nat_lt m (n - 1)) + as_number (eqb m (n - 1)) ≤ as_number (nat_lt m n)
below_split m n pos = omega (arith, below_is m (n - 1), below_is m n, same_is m (n - 1))

pub below_less : (m n : ℕ) → as_number (nat_lt m (n - 1)) ≤ as_number (nat_lt m n)
below_less m zero = omega arith
below_less m (suc n) = let a = below_split m (suc n) (omega arith) in omega arith

-- a racer gets the number that is cut off; a sweeper gets none
pub number_given : (v : View) → 0 < v.spare → (m : ℕ) → numbers m (after_split v) + numbers m (new_racer v) ≤ numbers m v
number_given v pos m = let a = below_split m v.spare pos in let b = none_below m in omega arith

pub number_dropped : (v : View) → (m : ℕ) → numbers m (after_split v) + numbers m (new_sweeper v) ≤ numbers m v
number_dropped v m = let a = below_less m v.spare in let b = none_below m in omega arith

-- cards

pub times_append : (c : ℕ) (ds es : List ℕ) → times c (ds ++ es) ≡ times c ds + times c es
times_append c [] es = omega arith
times_append c (d ∷ ds) es = let e = times_append c ds es in omega arith
