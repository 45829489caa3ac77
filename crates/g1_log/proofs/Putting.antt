-- A put keeps the rule of the line.
use Rattle.std.specs.Prelude.{◌≡◌, ◌≢◌, ◌+◌, ◌<◌, ◌&&◌, ◌==◌, ◌∷◌, ◌++◌}
use Rattle.g1_log.specs.{ℕ, true, false, true≢false, nat_lt, not, List, [], length, set, get_or, sym, refl, ap, ◌∙◌, subst, ⊎_elim, append_assoc, sum_by, arith, All, sum_by-append, sum_by_push, All-nil, nat_tests, some, get_elem?, Pushes, Learns, at_set, Buffer, Parcel, Sent, PassView, one_if, parcel, numbered, put_weight, taken_weight, holding, Rises, Fits, IsDelivered, with_keeper, IsLineState, SeenBy, put_by, IsSenderView, after_put}
use Rattle.g1_log.proofs.Sums.{total_set, at_most_total, two_at_most_total, all_none, only}
use Rattle.g1_log.proofs.Parcels.{rises_push, numbered_push, over, over_none, numbered_below, view_other}
use Rattle.g1_log.proofs.Views.{read_set, read_at}

-- where the view of sender i has put bs, each parcel of sender i that was taken or that the queue holds has a number below their count
module _ (items : List Parcel) (views : List PassView) (port i : ℕ) (v : PassView) (is : IsSenderView i v) (h : IsDelivered items views) (at : get_elem? views port ≡ some v) where
  made : ℕ
  made = length (put_by v)

  pub one_view : holding i v ≡ 1
  one_view =
      let f : Sent → ℕ = λ s. one_if (s.number == i) in
      let a : one_if (v.makes && not (nat_lt i v.made)) ≡ 0 = ap (λ m. one_if (m && not (nat_lt i v.made))) is.makes in
      let b : sum_by f v.sent ≡ 0 + one_if (i == i) = ap (sum_by f) is.sends in
      let c : one_if (i == i) ≡ 1 = grind (arith, nat_tests) in
      omega arith

  none_over : sum_by (put_weight (over i (length (put_by v)))) views ≡ 0
  none_over =
      let n = length (put_by v) in
      let g : Sent → ℕ = λ s. sum_by (over i n) (numbered s.number 0 s.buffers) in
      let a = only (holding i) (put_weight (over i n)) views port v (λ j b e z. view_other i n b z) at (let m = h.numbers i in let o = one_view in let p = at_most_total (holding i) views port v at in omega arith) in
      let b : sum_by g v.sent ≡ 0 + sum_by (over i n) (numbered i 0 (put_by v)) = ap (sum_by g) is.sends in
      let c = numbered_below i n 0 (put_by v) (omega arith) in
      omega arith

  pub queue_none_over : sum_by (over i (length (put_by v))) items ≡ 0
  queue_none_over = omega (arith, h.balance (over i (length (put_by v))), none_over)

  pub taken_none_over : (j : ℕ) (u : PassView) → get_elem? views j ≡ some u → All (λ l. sum_by (over i (length (put_by v))) l ≡ 0) u.taken
  taken_none_over j u e =
      let hh = over i (length (put_by v)) in
      all_none (sum_by hh) u.taken (omega (arith, h.balance hh, none_over, at_most_total (taken_weight hh) views j u e))

-- a list of which all numbers of sender i are below n takes parcel (i, n) at its end
rises_over : (l : List Parcel) (i n : ℕ) (b : Buffer) → Rises l → sum_by (over i n) l ≡ 0 → Rises (l ++ parcel i n b ∷ [])
rises_over l i n b r z = rises_push l (parcel i n b) r (λ k d lt. over_none i n _ (all_none (over i n) l z k d lt))

-- a view with a right stands beside no view that has ended the line
pub beside_settled : (items : List Parcel) (views : List PassView) (port j : ℕ) (v u : PassView) → IsDelivered items views → 0 < v.rights → get_elem? views port ≡ some v → get_elem? views j ≡ some u → j ≢ port
    → u.ended ≡ true → ⊥
beside_settled items views port j v u h right at at' other e =
    let t = two_at_most_total (λ (w : PassView). w.rights) views port j v u at at' other in
    let all = ((h.each j u at').settled e).0 in
    omega (arith, h.rights)

push_keeps : (items : List Parcel) (views : List PassView) (port i : ℕ) (v : PassView) (b : Buffer) → IsSenderView i v
    → IsDelivered items views → get_elem? views port ≡ some v → IsDelivered (items ++ parcel i (length (put_by v)) b ∷ []) (set views port (after_put i v (parcel i (length (put_by v)) b)))
push_keeps items views port i v b is h at =
    let n = length (put_by v) in
    let x : Parcel = parcel i n b in
    let w : PassView = after_put i v x in
    record {
      rights = omega (arith, total_set (λ (u : PassView). u.rights) views port v w at, h.rights);
      numbers = λ j.
          let f : Sent → ℕ = λ s. one_if (s.number == j) in
          let same : sum_by f v.sent ≡ sum_by f w.sent = ap (sum_by f) is.sends in
          omega (arith, total_set (holding j) views port v w at, h.numbers j, same);
      balance = λ k.
          let g : Sent → ℕ = λ s. sum_by k (numbered s.number 0 s.buffers) in
          let old : sum_by g v.sent ≡ 0 + sum_by k (numbered i 0 (put_by v)) = ap (sum_by g) is.sends in
          let new : sum_by g w.sent ≡ 0 + sum_by k (numbered i 0 (put_by v ++ b ∷ [])) = refl in
          let one : sum_by k (numbered i 0 (put_by v ++ b ∷ [])) ≡ sum_by k (numbered i 0 (put_by v)) + k (parcel i (0 + n) b) =
          ap (sum_by k) (numbered_push i 0 (put_by v) b) ∙ sum_by_push k (numbered i 0 (put_by v)) (parcel i (0 + n) b) in
          let name : k (parcel i (0 + n) b) ≡ k x = let z : 0 + n ≡ n = omega arith in ap (λ (m : ℕ). k (parcel i m b)) z in
          omega (arith, total_set (put_weight k) views port v w at, total_set (taken_weight k) views port v w at, h.balance k, sum_by_push k items x);
      rises = rises_over items i n b h.rises (queue_none_over items views port i v is h at);
      each = λ j u e. ⊎_elim
          (λ (t : (j ≡ port) × (w ≡ u)). subst (Fits (items ++ x ∷ [])) t.1 (record {
            idle = λ z. absurd (let r = is.right in omega arith);
            rises = subst (All (λ l. Rises (l ++ (items ++ x ∷ [])))) (sym is.takes) (All-nil (λ l. Rises (l ++ (items ++ x ∷ []))));
            settled = λ r. absurd (true≢false (sym r ∙ is.runs));
          }))
          (λ (t : (j ≢ port) × (get_elem? views j ≡ some u)). let f = h.each j u t.1 in record {
            idle = f.idle;
            rises = λ k d lt. let l = get_or u.taken k d in subst Rises (append_assoc l items (x ∷ []))
                (rises_over (l ++ items) i n b (f.rises k d lt) (sum_by-append (over i n) l items ∙ omega (arith, taken_none_over items views port i v is h at j u t.1 k d lt, queue_none_over items views port i v is h at)));
            settled = λ r. absurd (beside_settled items views port j v u h is.right at t.1 t.0 r);
          })
          (at_set views port j w u e);
    }

pub puts : (n port i k : ℕ) (v : PassView) (b : Buffer) → IsSenderView i v → length (put_by v) ≡ k → Pushes IsLineState n port v (parcel i k b) (λ w. w ≡ after_put i v (parcel i k b))
puts n port i k v b is count items views room h at =
    let keeps = push_keeps items (with_keeper views) port i v b is h (read_at views port v is.known at) in
    let x : ℕ → Parcel = λ m. parcel i m b in (
      after_put i v (parcel i k b),
      subst (IsDelivered (items ++ parcel i k b ∷ [])) (sym (read_set views port (after_put i v (parcel i k b)) is.known))
          (subst (λ m. IsDelivered (items ++ x m ∷ []) (set (with_keeper views) port (after_put i v (x m)))) count keeps),
      refl,
    )

pub learns : (port : ℕ) (v : PassView) → v.fresh ≡ false → Learns IsLineState port v (SeenBy v)
learns port v known items views h at = (with_keeper views, port, h, read_at views port v known at)
