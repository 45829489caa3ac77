-- A pass with all rights ends the line, and what is left in it is known.
use Rattle.std.specs.Prelude.{◌≡◌, ◌∷◌, ◌++◌}
use Rattle.g1_log.specs.{ℕ, true, false, List, [], set, get_or, sym, refl, ap, ◌∙◌, subst, sum_by, arith, sum_by-cons, All-cons, some, get_elem?, Pops, Learns, Parcel, Sent, PassView, numbered, put_weight, taken_weight, holding, Rises, whole, IsDelivered, with_keeper, IsLineState, IsLeft, ended_view}
use Rattle.g1_log.proofs.Sums.{at_most_total, only}
use Rattle.g1_log.proofs.Parcels.{rises_without}
use Rattle.g1_log.proofs.Views.{read_set, read_at}
use Rattle.g1_log.proofs.Taking.{pop_keeps}

left_known : (items : List Parcel) (views : List PassView) (port : ℕ) (v : PassView) → v.rights ≡ whole → IsDelivered items views → get_elem? views port ≡ some v → IsLeft v items
left_known items views port v all h at = record {
  balance = λ k.
      let f : PassView → ℕ = λ u. u.rights in
      let g : Sent → ℕ = λ s. sum_by k (numbered s.number 0 s.buffers) in
      let has = h.rights ∙ sym all in
      let a = only f (put_weight k) views port v (λ j u e z. ap (sum_by g) ((h.each j u e).idle z).0) at has in
      let b = only f (taken_weight k) views port v (λ j u e z. ap (sum_by (sum_by k)) ((h.each j u e).idle z).1) at has in
      omega (arith, h.balance k);
  rises = h.rises;
  lists = (h.each port v at).rises;
  numbers = λ i. omega (arith, h.numbers i, at_most_total (holding i) views port v at);
}

pub learns_left : (port : ℕ) (v : PassView) → v.rights ≡ whole → v.fresh ≡ false → Learns IsLineState port v (IsLeft v)
learns_left port v all known items views h at = left_known items (with_keeper views) port v all h (read_at views port v known at)

drain_keeps : (items : List Parcel) (views : List PassView) (port : ℕ) (v : PassView) (x : Parcel) → v.rights ≡ whole → IsDelivered (x ∷ items) views → get_elem? views port ≡ some v
    → IsDelivered items (set views port (ended_view v x items))
drain_keeps items views port v x all h at =
    pop_keeps items views port v x ((x ∷ []) ∷ v.taken) true items (let w : whole ≡ 20 = refl in omega arith)
    (λ k. omega (arith, sum_by-cons (sum_by k) (x ∷ []) v.taken))
    (All-cons (λ l. Rises (l ++ items)) (x ∷ []) v.taken h.rises (λ k d lt. rises_without (get_or v.taken k d) items x ((h.each port v at).rises k d lt)))
    (λ _. (all, refl))
    h at

pub ends : (port : ℕ) (v : PassView) → v.rights ≡ whole → v.fresh ≡ false → Pops IsLineState port v (λ x w. (w ≡ ended_view v x w.rest) × IsLeft v (x ∷ w.rest))
ends port v all known x items views h at =
    let inside = read_at views port v known at in (
      ended_view v x items,
      subst (IsDelivered items) (sym (read_set views port (ended_view v x items) known)) (drain_keeps items (with_keeper views) port v x all h inside),
      (refl, left_known (x ∷ items) (with_keeper views) port v all h inside),
    )

pub learns_rest : (port : ℕ) (v : PassView) → v.ended ≡ true → v.fresh ≡ false → Learns IsLineState port v (λ items. v.rest ≡ items)
learns_rest port v e known items views h at = ((h.each port v (read_at views port v known at)).settled e).1

pub drains : (port : ℕ) (v : PassView) → v.ended ≡ true → v.fresh ≡ false → Pops IsLineState port v (λ x w. (w ≡ ended_view v x w.rest) × (v.rest ≡ x ∷ w.rest))
drains port v e known x items views h at =
    let inside = read_at views port v known at in
    let s = (h.each port v inside).settled e in (
      ended_view v x items,
      subst (IsDelivered items) (sym (read_set views port (ended_view v x items) known)) (drain_keeps items (with_keeper views) port v x s.0 h inside),
      (refl, s.1),
    )
