-- Refining some cards and then others, and what refining a card adds to the recorded pairs.
use Rattle.std.specs.Prelude.{◌≡◌, ◌∷◌, ◌++◌, ◌||◌, ◌↔◌}
use Rattle.g1_core.specs.{IsDistinct-tail, ◌∙◌, inl, inr, ℕ, List, [], sym, Contains, nat_eq, not, IsDistinct, nat_cmp, nat_eq_equiv, IsDistinct-push, eqb-true, and_parts, not-true, true≢false, false_from_ne_true, All-push, set_of, IsPending, AreRefinable, refined, arith, nat_cmp_total, exact_unsigned, suc, true, All-contains, Contains-push_cases, append-nil, append_assoc, subst, refl, length, ap, and_from, PairSet, Cells, HoldsIn, of_card, table_from, gained, Bool, false}
use Rattle.g1_core.specs.Table.{Table}
use Rattle.std.specs.FinSet as set
use Rattle.std.proofs.lemmas.List.Elements.{All-append}
use Rattle.std.proofs.lemmas.List.Folds.{list_any-append}
use Rattle.std.proofs.lemmas.Map.Views.{Contains-from_any}
use Rattle.g1_core.proofs.SetLemmas.{in_set, pair_total, pair_exact, All_by_member, front_apart, in_pairs, to_pairs, of_card_from, of_card_to, in_list}
use Rattle.g1_core.proofs.TableLemmas.{refined_pending, refined_recorded, held_from_Holds, Holds_from_held}
use Rattle.g1_layout.specs.declared.region_set.RegionSet.{RegionSet}
use Rattle.g1_layout.specs.Regions.{HasRegion}
use Rattle.g1_core.proofs.MarkLemmas.{one_of, itself}

-- refining nothing changes nothing
pub refined_none : (t : Table) → refined [] t ≡ t
refined_none t =
    let pending : (refined [] t).pending ≡ t.pending = set.same_set nat_cmp_total exact_unsigned _ _ (λ q. rw (refined_pending [] t q, set.contains-empty nat_cmp q) (grind arith)) in
    let recorded : (refined [] t).recorded ≡ t.recorded = set.same_set pair_total pair_exact _ _ (λ p. rw (refined_recorded [] t p, set.contains-empty nat_cmp p.0) (grind arith)) in
    λ i. record { layout = t.layout; refs = t.refs; pending = pending i; recorded = recorded i }

set_both : (xs ys : List ℕ) (q : ℕ) → set.contains (set_of (xs ++ ys)) q ≡ (set.contains (set_of xs) q || set.contains (set_of ys) q)
set_both xs ys q = simp (set.contains-from_list nat_cmp_total, list_any-append)

-- refining some cards and then others refines them all
pub refined_both : (xs ys : List ℕ) (t : Table) → refined ys (refined xs t) ≡ refined (xs ++ ys) t
refined_both xs ys t =
    let pending : (refined ys (refined xs t)).pending ≡ (refined (xs ++ ys) t).pending = set.same_set nat_cmp_total exact_unsigned _ _ (λ q. simp (refined_pending, set_both) (grind arith)) in
    let recorded : (refined ys (refined xs t)).recorded ≡ (refined (xs ++ ys) t).recorded = set.same_set pair_total pair_exact _ _ (λ p. rw (refined_recorded ys (refined xs t) p, refined_recorded xs t p, refined_recorded (xs ++ ys) t p, set_both xs ys p.0) (grind arith)) in
    λ i. record { layout = t.layout; refs = t.refs; pending = pending i; recorded = recorded i }

pub push_distinct : (xs : List ℕ) (x : ℕ) → IsDistinct nat_eq xs → (Contains xs x → ⊥) → IsDistinct nat_eq (xs ++ x ∷ [])
push_distinct xs x distinct fresh = IsDistinct-push nat_eq_equiv xs x distinct (false_from_ne_true _ (λ h. fresh (Contains-from_any (λ x y e. eqb-true x y e) x xs h)))

pub distinct_both : (xs ys : List ℕ) → IsDistinct nat_eq xs → IsDistinct nat_eq ys → ((q : ℕ) → Contains xs q → Contains ys q → ⊥) → IsDistinct nat_eq (xs ++ ys)
distinct_both xs [] distinct others apart = rw append-nil distinct
distinct_both xs (y ∷ ys) distinct others apart = rw (← append_assoc xs (y ∷ []) ys) (distinct_both (xs ++ y ∷ []) ys (push_distinct xs y distinct (λ c. apart y c (0, omega arith, refl))) (IsDistinct-tail nat_eq y ys others) (λ q c d. elim (Contains-push_cases xs y q c) [
  | inl old ↦ apart q old (suc d.0, omega (arith, d.1), d.2)
  | inr is ↦ front_apart y ys others (subst (Contains ys) (sym is) d)
]))

-- cards that may be refined after others may be refined with them
pub refinable_both : (t : Table) (xs ys : List ℕ) → AreRefinable t xs → AreRefinable (refined xs t) ys → AreRefinable t (xs ++ ys)
refinable_both t xs ys h k =
    let before : (q : ℕ) → Contains ys q → (set.contains t.pending q ≡ true) × (not (set.contains (set_of xs) q) ≡ true) = λ q c. and_parts _ _ (sym (refined_pending xs t q) ∙ All-contains (IsPending (refined xs t)) ys q k.pending c) in
    record {
      distinct = distinct_both xs ys h.distinct k.distinct (λ q c d. true≢false (sym (in_set xs q c) ∙ not-true _ (before q d).1));
      pending = All-append (IsPending t) xs ys h.pending (All_by_member (IsPending t) ys (λ q c. (before q c).0));
    }

-- a further pending card may be refined too
pub refinable_push : (t : Table) (xs : List ℕ) (x : ℕ) → AreRefinable t xs → IsPending (refined xs t) x → AreRefinable t (xs ++ x ∷ [])
refinable_push t xs x h is =
    let parts = and_parts _ _ (sym (refined_pending xs t x) ∙ is) in
    record {
      distinct = push_distinct xs x h.distinct (λ c. true≢false (sym (in_set xs x c) ∙ not-true _ parts.1));
      pending = All-push (IsPending t) xs x h.pending parts.0;
    }

same_or : (a b c : Bool) → (b ≡ true → c ≡ true) → (a ≡ false → c ≡ true → b ≡ true) → (a || b) ≡ (a || c)
same_or a b c on back = grind arith

-- what recording a card's targets adds, but for those that are recorded, is what refining it adds
module _ (heap : Cells) (pairs : PairSet) (card : ℕ) (known : RegionSet) (row : (r : ℕ) → HasRegion known r ↔ (set.contains pairs (card, r) ≡ true)) where
  pub gained_is : (targets : List ℕ) → ((r : ℕ) → Contains targets r ↔ (HoldsIn heap.layout heap.refs card r × ¬ HasRegion known r)) → set.union pairs (of_card card targets) ≡ gained heap pairs card
  gained_is targets h =
      let t : Table = table_from heap pairs in
      set.same_set pair_total pair_exact _ _ (λ p. set.contains-union pair_total pairs (of_card card targets) p ∙ same_or _ _ _ (λ m.
      let q : (p.0 ≡ card) × Contains targets p.1 = of_card_from card targets p (in_pairs _ p m) in
      and_from _ _ (held_from_Holds t p.0 p.1 (subst (λ k. HoldsIn heap.layout heap.refs k p.1) (sym q.0) ((h p.1).0 q.1).0)) (in_set (card ∷ []) p.0 (itself p.0 card q.0))) (λ lacks m.
      let q = and_parts _ _ m in
      let is : p.0 ≡ card = one_of p.0 card (in_list (card ∷ []) p.0 q.1) in
      let hold : HoldsIn heap.layout heap.refs card p.1 = subst (λ k. HoldsIn heap.layout heap.refs k p.1) is (Holds_from_held t p.0 p.1 q.0) in
      to_pairs _ p (of_card_to card targets p is ((h p.1).1 (hold, λ has. true≢false (sym ((row p.1).0 has) ∙ ap (λ k. set.contains pairs (k, p.1)) (sym is) ∙ lacks))))) ∙ sym (refined_recorded (card ∷ []) t p))

  -- where there is none it adds nothing
  pub gained_nothing : (targets : List ℕ) → length targets ≡ 0 → ((r : ℕ) → Contains targets r ↔ (HoldsIn heap.layout heap.refs card r × ¬ HasRegion known r)) → pairs ≡ gained heap pairs card
  gained_nothing [] none h = set.same_set pair_total pair_exact _ _ (λ p. simp (set.contains-union pair_total, set.contains-empty) (grind arith)) ∙ gained_is [] h
  gained_nothing (r ∷ rs) none h = absurd (omega (arith, none))
