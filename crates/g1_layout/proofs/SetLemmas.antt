-- Membership in sets of cards and of pairs.
use Rattle.std.proofs.Common.{◌≡◌, ℕ, zero, suc, Bool, true, false, List, [], ◌∷◌, map, refl, sym, ap, ◌∙◌, arith}
use Rattle.std.specs.Prelude.{Contains}
use Rattle.std.specs.declared.cmp.Ordering.{Ordering}
use Rattle.std.specs.declared.cmp.Ordering.TheVariants.{Equal}
use Rattle.std.specs.Ordering.{nat_cmp}
use Rattle.std.specs.Cmp.{IsTotalOrder, Equal-is}
use Rattle.std.proofs.lemmas.Cmp.{on_total, then_total, nat_cmp_total, eq_by_cmp_equiv}
use Rattle.std.proofs.lemmas.Map.Lookups.{exact_pairs, exact_unsigned}
use Rattle.std.proofs.lemmas.Map.Views.{Contains-from_any, list_any-from_Contains}
use Rattle.std.specs.FinSet as set
use Rattle.g1_layout.specs.Sets.{pair_cmp, PairSet}

pub pair_total : IsTotalOrder pair_cmp
pair_total = then_total (on_total (λ (p : ℕ × ℕ). p.0) nat_cmp_total) (on_total (λ (p : ℕ × ℕ). p.1) nat_cmp_total)

pub pair_exact : (a b : ℕ × ℕ) → pair_cmp a b ≡ Equal → a ≡ b
pair_exact a b e = exact_pairs nat_cmp nat_cmp exact_unsigned exact_unsigned a b e

pub same_bools : (a b : Bool) → (a ≡ true → b ≡ true) → (b ≡ true → a ≡ true) → a ≡ b
same_bools true b f g = sym (f refl)
same_bools false true f g = g refl
same_bools false false f g = refl

-- two sets with the same members are equal
pub same_pairs : (s t : PairSet) → ((p : ℕ × ℕ) → set.contains s p ≡ true → set.contains t p ≡ true) → ((p : ℕ × ℕ) → set.contains t p ≡ true → set.contains s p ≡ true) → s ≡ t
same_pairs s t to from = set.same_set pair_total pair_exact s t (λ p. same_bools _ _ (to p) (from p))

pub same_cards : (s t : set.FinSet nat_cmp) → ((q : ℕ) → set.contains s q ≡ true → set.contains t q ≡ true) → ((q : ℕ) → set.contains t q ≡ true → set.contains s q ≡ true) → s ≡ t
same_cards s t to from = set.same_set nat_cmp_total exact_unsigned s t (λ q. same_bools _ _ (to q) (from q))

-- a list's set has what the list has
module _ {K : Type 0} {R : K → K → Ordering} (o : IsTotalOrder R) (exact : (a b : K) → R a b ≡ Equal → a ≡ b) where
  pub listed : (ks : List K) (q : K) → set.contains (set.from_list {R = R} ks) q ≡ true → Contains ks q
  listed ks q h = Contains-from_any (λ x y e. exact x y ((Equal-is (R x y)).0 e)) q ks (sym (set.contains-from_list o ks q) ∙ h)

  pub unlisted : (ks : List K) (q : K) → Contains ks q → set.contains (set.from_list {R = R} ks) q ≡ true
  unlisted ks q h = set.contains-from_list o ks q ∙ list_any-from_Contains (eq_by_cmp_equiv o) q ks h

pub in_pairs : (ks : List (ℕ × ℕ)) (q : ℕ × ℕ) → set.contains (set.from_list {R = pair_cmp} ks) q ≡ true → Contains ks q
in_pairs = listed pair_total pair_exact

pub to_pairs : (ks : List (ℕ × ℕ)) (q : ℕ × ℕ) → Contains ks q → set.contains (set.from_list {R = pair_cmp} ks) q ≡ true
to_pairs = unlisted pair_total pair_exact

-- what a card's pairs with some regions are
pub of_card_from : (card : ℕ) (regions : List ℕ) (p : ℕ × ℕ) → Contains (map (λ (r : ℕ). (card, r)) regions) p → (p.0 ≡ card) × Contains regions p.1
of_card_from card [] p (k, lt, e) = absurd (omega arith)
of_card_from card (r ∷ rs) p (zero, lt, e) = (ap (λ (q : ℕ × ℕ). q.0) (sym e), (0, omega arith, ap (λ (q : ℕ × ℕ). q.1) e))
of_card_from card (r ∷ rs) p (suc k, lt, e) =
    let rest : (p.0 ≡ card) × Contains rs p.1 = of_card_from card rs p (k, omega arith, e) in
    (rest.0, (suc rest.1.0, omega (arith, rest.1.1), rest.1.2))

pub of_card_to : (card : ℕ) (regions : List ℕ) (p : ℕ × ℕ) → p.0 ≡ card → Contains regions p.1 → Contains (map (λ (r : ℕ). (card, r)) regions) p
of_card_to card [] p on (k, lt, e) = absurd (omega arith)
of_card_to card (r ∷ rs) p on (zero, lt, e) = (0, omega arith, (λ i. (sym on i, e i)))
of_card_to card (r ∷ rs) p on (suc k, lt, e) =
    let rest : Contains (map (λ (r : ℕ). (card, r)) rs) p = of_card_to card rs p on (k, omega arith, e) in
    (suc rest.0, omega (arith, rest.1), rest.2)
