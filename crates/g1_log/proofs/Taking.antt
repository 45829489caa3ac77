-- A take keeps the rule of the line.
use Rattle.std.specs.Prelude.{◌≡◌, ◌≢◌, ◌+◌, ◌<◌, ◌∷◌, ◌++◌}
use Rattle.g1_log.specs.{ℕ, Bool, true, true≢false, List, [], set, get_or, sym, refl, ap, ◌∙◌, subst, ⊎_elim, append_assoc, sum_by, arith, All, sum_by-cons, sum_by_push, All-nil, All-cons, All-head, some, get_elem?, Pops, at_set, Parcel, PassView, put_weight, taken_weight, holding, Rises, whole, Fits, IsDelivered, view_with, with_keeper, IsLineState, taken_by, IsTakerView, after_take}
use Rattle.g1_log.proofs.Sums.{total_set}
use Rattle.g1_log.proofs.Parcels.{rises_without}
use Rattle.g1_log.proofs.Views.{read_set, read_at}
use Rattle.g1_log.proofs.Putting.{beside_settled}

-- a view with a right takes x, into lists in which the numbers rise
pub pop_keeps : (items : List Parcel) (views : List PassView) (port : ℕ) (v : PassView) (x : Parcel) (t : List (List Parcel)) (e : Bool) (r : List Parcel) → 0 < v.rights
    → ((k : Parcel → ℕ) → sum_by (sum_by k) t ≡ sum_by (sum_by k) v.taken + k x)
    → All (λ l. Rises (l ++ items)) t
    → (e ≡ true → (v.rights ≡ whole) × (r ≡ items))
    → IsDelivered (x ∷ items) views → get_elem? views port ≡ some v → IsDelivered items (set views port (view_with v.fresh v.rights v.makes v.made v.sent t e r))
pop_keeps items views port v x t e r right gains rise ends h at =
    let w : PassView = view_with v.fresh v.rights v.makes v.made v.sent t e r in
    record {
      rights = omega (arith, total_set (λ (u : PassView). u.rights) views port v w at, h.rights);
      numbers = λ j. omega (arith, total_set (holding j) views port v w at, h.numbers j);
      balance = λ k.
          let new : taken_weight k w ≡ taken_weight k v + k x = gains k in
          omega (arith, total_set (put_weight k) views port v w at, total_set (taken_weight k) views port v w at, h.balance k, sum_by-cons k x items, new);
      rises = h.rises.1;
      each = λ j u is. ⊎_elim
          (λ (c : (j ≡ port) × (w ≡ u)). subst (Fits items) c.1 (record {
            idle = λ z. absurd (omega arith);
            rises = rise;
            settled = ends;
          }))
          (λ (c : (j ≢ port) × (get_elem? views j ≡ some u)). let f = h.each j u c.1 in record {
            idle = f.idle;
            rises = λ k d lt. rises_without (get_or u.taken k d) items x (f.rises k d lt);
            settled = λ z. absurd (beside_settled (x ∷ items) views port j v u h right at c.1 c.0 z);
          })
          (at_set views port j w u is);
    }

pub takes : (port : ℕ) (v : PassView) → IsTakerView v → Pops IsLineState port v (λ x w. w ≡ after_take v x)
takes port v is x items views h at =
    let l = taken_by v in
    let inside = read_at views port v is.known at in
    let old : All (λ m. Rises (m ++ (x ∷ items))) (l ∷ []) = subst (All (λ m. Rises (m ++ (x ∷ items)))) is.takes ((h.each port v inside).rises) in
    let mine : Rises ((l ++ x ∷ []) ++ items) = subst Rises (sym (append_assoc l (x ∷ []) items)) (All-head (λ m. Rises (m ++ (x ∷ items))) l [] old) in
    let keeps = pop_keeps items (with_keeper views) port v x ((l ++ x ∷ []) ∷ []) v.ended v.rest is.right
    (λ k. let a : sum_by (sum_by k) v.taken ≡ 0 + sum_by k l = ap (sum_by (sum_by k)) is.takes in omega (arith, sum_by_push k l x))
    (All-cons (λ m. Rises (m ++ items)) (l ++ x ∷ []) [] mine (All-nil (λ m. Rises (m ++ items))))
    (λ z. absurd (true≢false (sym z ∙ is.runs)))
    h inside in (
      after_take v x,
      subst (IsDelivered items) (sym (read_set views port (after_take v x) is.known)) keeps,
      refl,
    )
