-- Membership in sets of cards and of pairs, what a filter keeps, and how many members a set has at least.
use Rattle.std.specs.Prelude.{◌≡◌, ◌<◌, ◌∷◌, ◌+◌, ◌-◌, ◌≤◌}
use Rattle.g1_core.specs.{◌∙◌, ℕ, zero, suc, true, List, [], length, get_or, Option, Some, None, refl, sym, ap, subst, arith, Contains, All, Contains-get_or, filter_map, cons_option, nat_cmp_total, exact_unsigned, set_of, enumerate_from, get_or_default, get_or-enumerate_from, length-enumerate_from, inl, inr, cond, not, nat_eq, IsDistinct, IsDistinct-tail, Equal-is, cases_lt, and_from, true≢false, false_from_ne_true, AllPairs-from_IsDistinct, Decides-eqb}
use Rattle.std.specs.declared.cmp.Ordering.{Ordering}
use Rattle.std.specs.declared.cmp.Ordering.TheVariants.{Equal}
use Rattle.std.specs.Cmp.{IsTotalOrder}
use Rattle.std.specs.FinSet as set
pub use Rattle.g1_layout.proofs.SetLemmas.{pair_total, pair_exact, same_bools, same_pairs, same_cards, listed, unlisted, in_pairs, to_pairs, of_card_from, of_card_to}

pub in_list : (ks : List ℕ) (q : ℕ) → set.contains (set_of ks) q ≡ true → Contains ks q
in_list = listed nat_cmp_total exact_unsigned

pub in_set : (ks : List ℕ) (q : ℕ) → Contains ks q → set.contains (set_of ks) q ≡ true
in_set = unlisted nat_cmp_total exact_unsigned

pub All_by_member : {X : Type 0} (P : X → Type 0) (xs : List X) → ((x : X) → Contains xs x → P x) → All P xs
All_by_member P xs each k d lt = each (get_or xs k d) (Contains-get_or xs k d lt)

-- the front of distinct cards is apart from the rest
pub front_apart : (x : ℕ) (xs : List ℕ) → IsDistinct nat_eq (x ∷ xs) → Contains xs x → ⊥
front_apart x xs h (k, lt, e) = AllPairs-from_IsDistinct Decides-eqb (x ∷ xs) h 0 (suc k) x (omega arith) (omega arith) (sym e)

-- what a filter_map keeps
module _ {X Y : Type 0} (h : X → Option Y) where
  kept_later : (o : Option Y) (ys : List Y) (q : Y) → Contains ys q → Contains (cons_option o ys) q
  kept_later None ys q c = c
  kept_later (Some y) ys q (k, l, e) = (suc k, omega arith, e)

  abbrev pub Kept : List X → Y → Type 0
  Kept xs q = (k : ℕ) × (x : X) × (k < length xs) × (get_or xs k x ≡ x) × (h x ≡ Some q)

  kept_there : (x : X) (xs : List X) (q : Y) → Kept xs q → Kept (x ∷ xs) q
  kept_there x xs q (k, y, l, e, is) = (suc k, y, omega arith, e, is)

  kept_cases : (x : X) (xs : List X) (q : Y) (o : Option Y) → h x ≡ o → (Contains (filter_map h xs) q → Kept xs q) → Contains (cons_option o (filter_map h xs)) q → Kept (x ∷ xs) q
  kept_cases x xs q None is rest c = kept_there x xs q (rest c)
  kept_cases x xs q (Some y) is rest (zero, l, e) = (0, x, omega arith, refl, is ∙ ap Some e)
  kept_cases x xs q (Some y) is rest (suc k, l, e) = kept_there x xs q (rest (k, omega arith, e))

  pub from_kept : (xs : List X) (q : Y) → Contains (filter_map h xs) q → Kept xs q
  from_kept [] q (k, l, e) = absurd (omega arith)
  from_kept (x ∷ xs) q c = kept_cases x xs q (h x) refl (from_kept xs q) c

  pub to_kept : (xs : List X) (k : ℕ) (x : X) (q : Y) → k < length xs → get_or xs k x ≡ x → h x ≡ Some q → Contains (filter_map h xs) q
  to_kept [] k x q l e is = absurd (omega arith)
  to_kept (y ∷ xs) zero x q l e is = subst (λ o. Contains (cons_option o (filter_map h xs)) q) (sym (ap h e ∙ is)) (0, omega arith, refl)
  to_kept (y ∷ xs) (suc k) x q l e is = kept_later (h y) (filter_map h xs) q (to_kept xs k x q (omega arith) e is)

pub at_its_place : {X : Type 0} (xs : List X) (d : X) (k : ℕ) (p : ℕ × X) → k < length xs → get_or (enumerate_from 0 xs) k p ≡ (k, get_or xs k d)
at_its_place xs d k p below =
    let from : 0 + k ≡ k = omega arith in
    get_or-enumerate_from 0 xs k p below ∙ (λ i. (from i, get_or_default xs k p.1 d below i))

-- what it keeps of a list with its places
module _ {X Y : Type 0} (h : ℕ × X → Option Y) (xs : List X) (d : X) where
  pub from_places : (q : Y) → Contains (filter_map h (enumerate_from 0 xs)) q → (k : ℕ) × (k < length xs) × (h (k, get_or xs k d) ≡ Some q)
  from_places q c =
      let k = from_kept h (enumerate_from 0 xs) q c in
      let below : k.0 < length xs = omega (arith, k.2, length-enumerate_from 0 xs) in
      (k.0, below, ap h (sym (at_its_place xs d k.0 k.1 below) ∙ k.3) ∙ k.4)

  pub to_places : (k : ℕ) (q : Y) → k < length xs → h (k, get_or xs k d) ≡ Some q → Contains (filter_map h (enumerate_from 0 xs)) q
  to_places k q below is = to_kept h (enumerate_from 0 xs) k (k, get_or xs k d) q (omega (arith, length-enumerate_from 0 xs)) (at_its_place xs d k (k, get_or xs k d) below) is

-- how many members a set has at least
module _ {K : Type 0} {R : K → K → Ordering} (o : IsTotalOrder R) (exact : (a b : K) → R a b ≡ Equal → a ≡ b) where
  pub some_member : (s : set.FinSet R) (k : K) → set.contains s k ≡ true → 1 ≤ set.len s
  some_member s k h = elim (cases_lt 0 (set.len s)) [
    | inl some ↦ omega arith
    | inr none ↦ absurd (true≢false (sym h ∙ ap (λ (s : set.FinSet R). set.contains s k) (set.empty_of_len s (omega arith)) ∙ set.contains-empty R k))
  ]

  pub one_fewer : (s : set.FinSet R) (k : K) → set.contains s k ≡ true → set.len (set.remove s k) + 1 ≡ set.len s
  one_fewer s k h = omega (arith, set.len-remove o s k ∙ ap (λ b. cond b (set.len s - 1) (set.len s)) h, some_member s k h)

  pub few_distinct : (f : ℕ → K) → ((a b : ℕ) → f a ≡ f b → a ≡ b) → (xs : List ℕ) (s : set.FinSet R) → IsDistinct nat_eq xs → ((x : ℕ) → Contains xs x → set.contains s (f x) ≡ true) → length xs ≤ set.len s
  few_distinct f one [] s distinct each = omega arith
  few_distinct f one (x ∷ xs) s distinct each =
      let rest : length xs ≤ set.len (set.remove s (f x)) = few_distinct f one xs (set.remove s (f x)) (IsDistinct-tail nat_eq x xs distinct) (λ y c.
      set.contains-remove o s (f x) (f y) ∙ and_from _ _ (ap not (false_from_ne_true _ (λ e. front_apart x xs distinct (subst (Contains xs) (one y x (exact (f y) (f x) ((Equal-is (R (f y) (f x))).0 e))) c)))) (each y (suc c.0, omega (arith, c.1), c.2))) in
      omega (arith, one_fewer s (f x) (each x (0, omega arith, refl)))
