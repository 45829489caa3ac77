-- A new pass keeps the rule of the line.
use Rattle.std.specs.Prelude.{◌≡◌, ◌≢◌, ◌+◌, ◌<◌, ◌≤◌, ◌&&◌, ◌==◌, ◌∷◌, ◌++◌}
use Rattle.g1_log.specs.{ℕ, zero, suc, true, true≢false, nat_lt, not, cond, List, [], set, sym, refl, ap, ◌∙◌, subst, ⊎_elim, arith, sum_by_push, All-nil, All-cons, nat_tests, some, some-injective, some-ne-none, get_elem?, Forks, Admits, at_set, at_snoc, Parcel, PassView, one_if, put_weight, taken_weight, holding, Rises, whole, Fits, IsDelivered, newcomer, keeper, with_keeper, IsLineState, maker, sender_made, new_sender, taker_made, new_taker}
use Rattle.g1_log.proofs.Sums.{total_set}
use Rattle.g1_log.proofs.Views.{read_set, read_at, read_snoc, one_if_le, set_there}

add_newcomer : (items : List Parcel) (views : List PassView) → IsDelivered items views → IsDelivered items (views ++ newcomer ∷ [])
add_newcomer items views h = record {
  rights = omega (arith, sum_by_push (λ (u : PassView). u.rights) views newcomer, h.rights);
  numbers = λ j. omega (arith, sum_by_push (holding j) views newcomer, h.numbers j);
  balance = λ k. omega (arith, sum_by_push (put_weight k) views newcomer, sum_by_push (taken_weight k) views newcomer, h.balance k);
  rises = h.rises;
  each = λ j u is. ⊎_elim (λ (c : get_elem? views j ≡ some u). h.each j u c)
      (λ (c : newcomer ≡ u). subst (Fits items) c (record { idle = λ _. (refl, refl); rises = All-nil (λ l. Rises (l ++ items)); settled = λ z. absurd (true≢false (sym z)) }))
      (at_snoc views newcomer u j is);
}

pub admits : Admits IsLineState newcomer
admits items [] h = absurd (let r = h.rights in omega arith)
admits items (x ∷ xs) h = add_newcomer items (with_keeper (x ∷ xs)) h

pub begins : IsLineState [] (newcomer ∷ [])
begins = record {
  rights = refl;
  numbers = λ j. omega (arith, one_if_le (true && not (nat_lt j 0)));
  balance = λ k. refl;
  rises = tt;
  each = begins_each;
}
  where
    begins_each : (j : ℕ) (u : PassView) → get_elem? (keeper ∷ []) j ≡ some u → Fits [] u
    begins_each zero u is = subst (Fits []) (some-injective keeper u is) (record { idle = λ z. absurd (let r : whole ≡ 0 = z in omega arith); rises = All-cons (λ l. Rises (l ++ [])) [] [] tt (All-nil (λ l. Rises (l ++ []))); settled = λ z. absurd (true≢false (sym z)) })
    begins_each (suc j) u is = absurd (some-ne-none u (sym is))

-- the first pass shows itself as the keeper
pub opens : Forks IsLineState 0 newcomer keeper newcomer
opens items [] h at = absurd (some-ne-none newcomer (sym at))
opens items (x ∷ xs) h at =
    let q : x ≡ newcomer = some-injective x newcomer at in
    add_newcomer items (keeper ∷ xs) (subst (λ (y : PassView). IsDelivered items (cond y.fresh keeper y ∷ xs)) q h)

fork_keeps : (items : List Parcel) (views : List PassView) (port : ℕ) (v l r : PassView) → l.rights + r.rights ≡ v.rights
    → ((j : ℕ) → holding j l + holding j r ≤ holding j v)
    → ((k : Parcel → ℕ) → (put_weight k l + put_weight k r ≡ put_weight k v) × (taken_weight k l + taken_weight k r ≡ taken_weight k v))
    → Fits items l → Fits items r
    → IsDelivered items views → get_elem? views port ≡ some v → IsDelivered items (set views port l ++ r ∷ [])
fork_keeps items views port v l r rights numbers weights left right h at = record {
  rights = omega (arith, sum_by_push (λ (u : PassView). u.rights) (set views port l) r, total_set (λ (u : PassView). u.rights) views port v l at, h.rights);
  numbers = λ j. omega (arith, sum_by_push (holding j) (set views port l) r, total_set (holding j) views port v l at, numbers j, h.numbers j);
  balance = λ k. omega (arith, sum_by_push (put_weight k) (set views port l) r, total_set (put_weight k) views port v l at, sum_by_push (taken_weight k) (set views port l) r, total_set (taken_weight k) views port v l at, h.balance k, (weights k).0, (weights k).1);
  rises = h.rises;
  each = λ j u is. ⊎_elim
      (λ (c : get_elem? (set views port l) j ≡ some u). ⊎_elim
      (λ (d : (j ≡ port) × (l ≡ u)). subst (Fits items) d.1 left)
      (λ (d : (j ≢ port) × (get_elem? views j ≡ some u)). h.each j u d.1)
      (at_set views port j l u c))
      (λ (c : r ≡ u). subst (Fits items) c right)
      (at_snoc (set views port l) r u j is);
}

one_more : (M j : ℕ) → one_if (not (nat_lt j (M + 1))) + one_if (M == j) ≤ one_if (not (nat_lt j M))
one_more M j = grind (arith, nat_tests)

pub makes_sender : (port r n : ℕ) → 1 < r → Forks IsLineState port (maker r n) (sender_made (maker r n)) (new_sender n)
makes_sender port r n more items views h at =
    let v = maker r n in let l = sender_made (maker r n) in let new = new_sender n in
    let inside = read_at views port v refl at in
    let f = h.each port v inside in
    let keeps = fork_keeps items (with_keeper views) port v l new (omega arith) (λ j. let o = one_more n j in omega arith) (λ k. (refl, refl))
    (record { idle = λ z. absurd (omega arith); rises = f.rises; settled = λ z. absurd (true≢false (sym z)) })
    (record { idle = λ z. absurd (let q : 1 ≡ 0 = z in omega arith); rises = All-nil (λ m. Rises (m ++ items)); settled = λ z. absurd (true≢false (sym z)) })
    h inside in
    subst (IsDelivered items) (ap (λ m. m ++ new ∷ []) (sym (read_set views port l refl)) ∙ sym (read_snoc (set views port l) port l new (set_there views port v l at))) keeps

pub makes_taker : (port r n : ℕ) → 1 < r → Forks IsLineState port (maker r n) (taker_made (maker r n)) new_taker
makes_taker port r n more items views h at =
    let v = maker r n in let l = taker_made (maker r n) in let new = new_taker in
    let inside = read_at views port v refl at in
    let f = h.each port v inside in
    let keeps = fork_keeps items (with_keeper views) port v l new (omega arith) (λ j. omega arith) (λ k. (refl, refl))
    (record { idle = λ z. absurd (omega arith); rises = f.rises; settled = λ z. absurd (true≢false (sym z)) })
    (record { idle = λ z. absurd (let q : 1 ≡ 0 = z in omega arith); rises = All-cons (λ m. Rises (m ++ items)) [] [] h.rises (All-nil (λ m. Rises (m ++ items))); settled = λ z. absurd (true≢false (sym z)) })
    h inside in
    subst (IsDelivered items) (ap (λ m. m ++ new ∷ []) (sym (read_set views port l refl)) ∙ sym (read_snoc (set views port l) port l new (set_there views port v l at))) keeps
