-- Where seats come, are split or are joined, all of them together have what they had.
use Rattle.std.specs.Prelude.{◌≡◌, ◌⊎◌, ◌<◌, ◌≤◌, ◌∷◌, ◌++◌}
use Rattle.g1_race_words.specs.{ℕ, List, [], set, Some, refl, sym, ◌∙◌, subst, inl, inr, ⊎_elim, arith, some, get_elem?, set_else, View, AtRest, In, IsBlank, both, after_split, new_racer, new_sweeper, no_seat, new_reader, HasStore, KeepAll, SeatsKeepAll}
use Rattle.g1_race_words.proofs.Plain.{in_left, in_right, in_either, some_comes, some_splits, some_joins, held_more, held_split, held_join}

-- a seat that has no store, and nothing else but a history
abbrev HasNone : View → Type 0
HasNone w = ((number : ℕ) (x : ℕ × ℕ) → HasStore number x w → ⊥) × IsBlank (record w { histories = [] })

none_in : {A : Type 0} (l : List A) (x : A) → l ≡ [] → In l x → ⊥
none_in {A} l x e i = subst (λ (m : List A). In m x) e i

none_owed : (w : View) (c : ℕ) → AtRest w → w.owed ≡ Some c → ⊥
none_owed w c rest o = let e = rest.0 in absurd (cc (o, e))

none_unread : (w : View) (p : ℕ) → AtRest w → (w.next ≤ p) × (p < w.end) → ⊥
none_unread w p rest a = let e = rest.1 in absurd (omega (arith, a.0, a.1, e))

blank_none : (w : View) → IsBlank w → HasNone w
blank_none w b = (λ number x h. none_in w.histories (number, h.0) b.1 h.1, (b.0, refl, b.2, b.3, b.4, b.5))

racer_none : (v : View) → HasNone (new_racer v)
racer_none v = (no_store, ((refl, refl, refl, refl), refl, refl, refl, refl, refl))
  where
    no_store : (number : ℕ) (x : ℕ × ℕ) → HasStore number x (new_racer v) → ⊥
    no_store number x (h, inl e, i) = none_in h x (λ j. (sym e j).1) i
    no_store number x (h, inr i, j) = i

new_none : (v w : View) → (w ≡ new_racer v) ⊎ (w ≡ new_sweeper v) ⊎ (w ≡ new_reader v) → HasNone w
new_none v w (inl e) = subst HasNone (sym e) (racer_none v)
new_none v w (inr (inl e)) = subst HasNone (sym e) (blank_none (new_sweeper v) ((refl, refl, refl, refl), refl, refl, refl, refl, refl))
new_none v w (inr (inr e)) = subst HasNone (sym e) (blank_none (new_reader v) ((refl, refl, refl, refl), refl, refl, refl, refl, refl))

keep_come : (views : List View) (w : View) → HasNone w → KeepAll views (views ++ w ∷ [])
keep_come views w n = record {
  stores = λ number x. some_comes (HasStore number x) views w (n.0 number x);
  overwritten = held_more (λ v. v.overwritten) views w n.1.5;
  claims = held_more (λ v. v.claims) views w n.1.2;
  cleanings = held_more (λ v. v.cleanings) views w n.1.3;
  pairs = held_more (λ v. v.pairs) views w n.1.4;
  owed = λ c. some_comes (λ v. v.owed ≡ Some c) views w (none_owed w c n.1.0);
  unread = λ p. some_comes (λ v. (v.next ≤ p) × (p < v.end)) views w (none_unread w p n.1.0);
}

keep_split : (views : List View) (id : ℕ) (v w : View) → get_elem? views id ≡ some v → HasNone w → KeepAll views (set views id (after_split v) ++ w ∷ [])
keep_split views id v w at n = record {
  stores = λ number x. some_splits (HasStore number x) views id v (after_split v) w at (λ h. h) (λ h. h) (n.0 number x);
  overwritten = held_split (λ v. v.overwritten) views id v (after_split v) w at refl n.1.5;
  claims = held_split (λ v. v.claims) views id v (after_split v) w at refl n.1.2;
  cleanings = held_split (λ v. v.cleanings) views id v (after_split v) w at refl n.1.3;
  pairs = held_split (λ v. v.pairs) views id v (after_split v) w at refl n.1.4;
  owed = λ c. some_splits (λ v. v.owed ≡ Some c) views id v (after_split v) w at (λ h. h) (λ h. h) (none_owed w c n.1.0);
  unread = λ p. some_splits (λ v. (v.next ≤ p) × (p < v.end)) views id v (after_split v) w at (λ h. h) (λ h. h) (none_unread w p n.1.0);
}

keep_join : (views : List View) (id other : ℕ) (v u : View) → get_elem? views id ≡ some v → ¬ (other ≡ id) → get_elem? (set views id (both v u)) other ≡ some u → AtRest u → KeepAll views (set (set views id (both v u)) other no_seat)
keep_join views id other v u at apart there rest = record {
  stores = λ number x. some_joins (HasStore number x) views id other v u (both v u) no_seat at apart there
      (λ h. (h.0, in_left v.histories u.histories (number, h.0) h.1, h.2)) (λ h. (h.0, in_right v.histories u.histories (number, h.0) h.1, h.2))
      (λ h. ⊎_elim (λ (i : In v.histories (number, h.0)). inl (h.0, i, h.2)) (λ (i : In u.histories (number, h.0)). inr (h.0, i, h.2)) (in_either v.histories u.histories (number, h.0) h.1))
      (λ h. absurd h.1);
  overwritten = held_join (λ w. w.overwritten) views id v u (both v u) no_seat other at apart there refl refl;
  claims = held_join (λ w. w.claims) views id v u (both v u) no_seat other at apart there refl refl;
  cleanings = held_join (λ w. w.cleanings) views id v u (both v u) no_seat other at apart there refl refl;
  pairs = held_join (λ w. w.pairs) views id v u (both v u) no_seat other at apart there refl refl;
  owed = λ c. some_joins (λ w. w.owed ≡ Some c) views id other v u (both v u) no_seat at apart there (λ o. o) (λ o. absurd (none_owed u c rest o)) (λ o. inl o) (none_owed no_seat c (refl, refl, refl, refl));
  unread = λ p. some_joins (λ w. (w.next ≤ p) × (p < w.end)) views id other v u (both v u) no_seat at apart there (λ a. a) (λ a. absurd (none_unread u p rest a)) (λ a. inl a) (none_unread no_seat p (refl, refl, refl, refl));
}

pub seats_keep_all : SeatsKeepAll
seats_keep_all before next (inl (w, blank, e)) = subst (KeepAll before) (sym e) (keep_come before w (blank_none w blank))
seats_keep_all before next (inr (inl (seat, v, w, at, e, is))) = subst (KeepAll before) (sym e) (keep_split before seat v w at (new_none v w is))
seats_keep_all before next (inr (inr (seat, other, v, u, at, there, apart, rest, e))) = subst (KeepAll before) (sym e) (keep_join before seat other v u at apart (set_else before seat other (both v u) apart ∙ there) rest)
