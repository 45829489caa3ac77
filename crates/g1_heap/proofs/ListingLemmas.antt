-- A pass over the words of a row, a word or a run of null words at a time.
use Rattle.std.specs.Prelude.{◌≡◌, ◌≢◌, ◌<◌, ◌≤◌, ◌+◌, ◌∷◌, ◌++◌}
use Rattle.g1_heap.specs.{inl, inr, ℕ, List, [], length, get_or, Option, Some, None, sym, ap, ◌∙◌, subst, arith, Contains, cases_lt, Contains-append_left, Contains-push, Contains-push_cases, get_or_default, Shape, region_of, RegionSet, HasRegion, Gains, ref_of, RefersInto, RowRefers, RowRefersFirst, IsListedUpTo}
use Rattle.std.proofs.lemmas.List.Quantifiers.{all_pairs_push}

-- the region into which a word refers
refers_same : (l : Shape) (target : Option ℕ) (place region r : ℕ) → target ≡ Some place → region ≡ region_of l place → RefersInto l target r → region ≡ r
refers_same l target place region r is at m =
    let same : Some place ≡ Some m.place = sym is ∙ m.refers in
    let places : place ≡ m.place = cc in
    at ∙ ap (region_of l) places ∙ m.into

module _ (l : Shape) (row : List ℕ) (known : RegionSet) where
  pub listed_none : IsListedUpTo l row known 0 known []
  listed_none = record {
    has = λ r. (λ h. inl h, λ h. elim h [ inl e ↦ e | inr c ↦ absurd (let lt : c.0 < 0 = c.1 in omega (arith, lt)) ]);
    new = λ r c. absurd (let lt : c.0 < 0 = c.1 in omega (arith, lt));
    only = λ r c. absurd (let lt : c.0 < 0 = c.1 in omega (arith, lt));
    gained = λ r k lt m. absurd (omega arith);
    distinct = λ i j d lt below. absurd (omega arith);
    ordered = λ i j d lt below. absurd (omega arith);
  }

  -- more words, none of which refers to a region that isn't listed
  pub listed_on : (i j : ℕ) (seen : RegionSet) (regions : List ℕ) → i ≤ j → ((r k : ℕ) → i ≤ k → k < j → RowRefers l row k r → HasRegion seen r) → IsListedUpTo l row known i seen regions → IsListedUpTo l row known j seen regions
  listed_on i j seen regions le there h = record {
    has = h.has;
    new = h.new;
    only = λ r c. let k = h.only r c in (k.0, omega (arith, k.1), k.2, k.3);
    gained = λ r k lt m. elim (cases_lt k i) [ inl before ↦ h.gained r k before m | inr past ↦ there r k past lt m ];
    distinct = h.distinct;
    ordered = h.ordered;
  }

  -- null words
  pub listed_nulls : (i j : ℕ) (seen : RegionSet) (regions : List ℕ) → i ≤ j → ((k : ℕ) → i ≤ k → k < j → ref_of l (get_or row k 0) ≡ None) → IsListedUpTo l row known i seen regions → IsListedUpTo l row known j seen regions
  listed_nulls i j seen regions le nulls = listed_on i j seen regions le (λ r k from lt m. let some : None ≡ Some m.place = sym (nulls k from lt) ∙ m.refers in absurd (cc))

  pub listed_null : (i : ℕ) (seen : RegionSet) (regions : List ℕ) → ref_of l (get_or row i 0) ≡ None → IsListedUpTo l row known i seen regions → IsListedUpTo l row known (i + 1) seen regions
  listed_null i seen regions null = listed_nulls i (i + 1) seen regions (omega arith) (λ k from lt. let e : k ≡ i = omega arith in ap (λ k. ref_of l (get_or row k 0)) e ∙ null)

  -- the same set and list by other names
  pub listed_as : (i : ℕ) (seen seen' : RegionSet) (regions regions' : List ℕ) → seen' ≡ seen → regions' ≡ regions → IsListedUpTo l row known i seen regions → IsListedUpTo l row known i seen' regions'
  listed_as i seen seen' regions regions' same same_list h = subst (λ (s : RegionSet). IsListedUpTo l row known i s regions') (sym same) (subst (IsListedUpTo l row known i seen) (sym same_list) h)

  -- a word that refers into a region of the set
  pub listed_known : (i : ℕ) (seen : RegionSet) (regions : List ℕ) (place region : ℕ) → ref_of l (get_or row i 0) ≡ Some place → region ≡ region_of l place → HasRegion seen region → IsListedUpTo l row known i seen regions → IsListedUpTo l row known (i + 1) seen regions
  listed_known i seen regions place region is at there = listed_on i (i + 1) seen regions (omega arith) (λ r k from lt m.
      let e : i ≡ k = omega arith in
      subst (HasRegion seen) (refers_same l (ref_of l (get_or row k 0)) place region r (ap (λ k. ref_of l (get_or row k 0)) (sym e) ∙ is) at m) there)

  -- a word that refers into a region for the first time
  module _ (i : ℕ) (old : RegionSet) (regions : List ℕ) (place region : ℕ) (below : i < length row) (is : ref_of l (get_or row i 0) ≡ Some place) (at : region ≡ region_of l place) (fresh : ¬ HasRegion old region) (h : IsListedUpTo l row known i old regions) where
    refers_here : RowRefers l row i region
    refers_here = record { place = place; refers = is; into = sym at }

    unlisted : Contains regions region → ⊥
    unlisted c = fresh ((h.has region).1 (inr c))

    -- a word that refers into it is none of those before
    not_before : (k : ℕ) → RowRefers l row k region → i ≤ k
    not_before k m = elim (cases_lt k i) [
      | inl before ↦ absurd (fresh (h.gained region k before m))
      | inr past ↦ past
    ]

    element : (k d : ℕ) → k < length regions → Contains regions (get_or regions k d)
    element k d lt = (k, lt, get_or_default regions k (get_or regions k d) d lt)

    fresh_only : (r : ℕ) → Contains (regions ++ region ∷ []) r → (k : ℕ) × (k < i + 1) × (k < length row) × RowRefers l row k r
    fresh_only r c = elim (Contains-push_cases regions region r c) [
      | inl o ↦ let k = h.only r o in (k.0, omega (arith, k.1), k.2, k.3)
      | inr e ↦ (i, omega arith, below, subst (RowRefers l row i) e refers_here)
    ]

    fresh_new : (r : ℕ) → Contains (regions ++ region ∷ []) r → ¬ HasRegion known r
    fresh_new r c = elim (Contains-push_cases regions region r c) [
      | inl o ↦ h.new r o
      | inr e ↦ λ was. fresh ((h.has region).1 (inl (subst (HasRegion known) (sym e) was)))
    ]

    fresh_ordered : (k d : ℕ) → k < length regions → RowRefersFirst l row (get_or regions k d) region
    fresh_ordered k d lt m refers =
        let first = h.only (get_or regions k d) (element k d lt) in
        (first.0, omega (arith, first.1, not_before m refers), first.3)

    module _ (new : RegionSet) (gains : Gains old region new) where
      fresh_gained : (r k : ℕ) → k < i + 1 → RowRefers l row k r → HasRegion new r
      fresh_gained r k lt m = elim (cases_lt k i) [
        | inl before ↦ (gains r).1 (inl (h.gained r k before m))
        | inr past ↦
            let e : i ≡ k = omega arith in
            let same : region ≡ r = refers_same l (ref_of l (get_or row k 0)) place region r (ap (λ k. ref_of l (get_or row k 0)) (sym e) ∙ is) at m in
            (gains r).1 (inr (sym same))
      ]

      pub listed_fresh : IsListedUpTo l row known (i + 1) new (regions ++ region ∷ [])
      listed_fresh = record {
        has = λ r. (
          λ n. elim ((gains r).0 n) [
            | inl o ↦ elim ((h.has r).0 o) [
              | inl was ↦ inl was
              | inr c ↦ inr (Contains-append_left regions (region ∷ []) r c)
            ]
            | inr e ↦ inr (subst (Contains (regions ++ region ∷ [])) (sym e) (Contains-push regions region))
          ],
          λ c. elim c [
            | inl was ↦ (gains r).1 (inl ((h.has r).1 (inl was)))
            | inr c ↦ elim (Contains-push_cases regions region r c) [
              | inl o ↦ (gains r).1 (inl ((h.has r).1 (inr o)))
              | inr e ↦ (gains r).1 (inr (sym e))
            ]
          ],
        );
        new = fresh_new;
        only = fresh_only;
        gained = fresh_gained;
        distinct = all_pairs_push (λ a b. a ≢ b) regions region h.distinct (λ k d lt e. unlisted (subst (Contains regions) e (element k d lt)));
        ordered = all_pairs_push (RowRefersFirst l row) regions region h.ordered fresh_ordered;
      }
