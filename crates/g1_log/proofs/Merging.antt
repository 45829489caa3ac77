-- Two passes made one keep the rule of the line.
use Rattle.std.specs.Prelude.{◌≡◌, ◌≢◌, ◌<◌, ◌⊎◌, ◌==◌, ◌∷◌, ◌++◌}
use Rattle.g1_log.specs.{ℕ, zero, suc, false, true≢false, cond, List, [], set, sym, refl, ap, ◌∙◌, subst, ⊎_elim, sum_by, arith, sum_by-append, All-nil, All-append, some, some-injective, some-ne-none, get_elem?, Merges, at_set, set_else, Parcel, Sent, PassView, one_if, numbered, put_weight, taken_weight, holding, Rises, whole, Fits, IsDelivered, newcomer, keeper, with_keeper, IsLineState, joined, spent}
use Rattle.g1_log.proofs.Sums.{total_set, two_at_most_total}
use Rattle.g1_log.proofs.Views.{read_set, read_at}

merge_keeps : (items : List Parcel) (views : List PassView) (port other : ℕ) (v u : PassView) → 0 < u.rights → ¬ (other ≡ port)
    → IsDelivered items views → get_elem? views port ≡ some v → get_elem? (set views port (joined v u)) other ≡ some u
    → IsDelivered items (set (set views port (joined v u)) other spent)
merge_keeps items views port other v u right apart h at there =
    let both = joined v u in
    let vs : List PassView = set views port both in
    let was : get_elem? views other ≡ some u = sym (set_else views port other both apart) ∙ there in
    record {
      rights = let f : PassView → ℕ = λ w. w.rights in omega (arith, total_set f views port v both at, total_set f vs other u spent there, h.rights);
      numbers = λ j. let f : Sent → ℕ = λ s. one_if (s.number == j) in
          omega (arith, total_set (holding j) views port v both at, total_set (holding j) vs other u spent there, sum_by-append f v.sent u.sent, h.numbers j);
      balance = λ k. let g : Sent → ℕ = λ s. sum_by k (numbered s.number 0 s.buffers) in
          omega (
            arith,
            total_set (put_weight k) views port v both at,
            total_set (put_weight k) vs other u spent there,
            sum_by-append g v.sent u.sent,
            total_set (taken_weight k) views port v both at,
            total_set (taken_weight k) vs other u spent there,
            sum_by-append (sum_by k) v.taken u.taken,
            h.balance k,
          );
      rises = h.rises;
      each = λ j w is. ⊎_elim
          (λ (c : (j ≡ other) × (spent ≡ w)). subst (Fits items) c.1 (record { idle = λ _. (refl, refl); rises = All-nil (λ l. Rises (l ++ items)); settled = λ z. absurd (true≢false (sym z)) }))
          (λ (c : (j ≢ other) × (get_elem? vs j ≡ some w)). ⊎_elim
          (λ (d : (j ≡ port) × (both ≡ w)). subst (Fits items) d.1 (record {
            idle = λ z. absurd (omega arith);
            rises = All-append (λ l. Rises (l ++ items)) v.taken u.taken (h.each port v at).rises (h.each other u was).rises;
            settled = λ z. absurd (true≢false (sym z));
          }))
          (λ (d : (j ≢ port) × (get_elem? views j ≡ some w)). h.each j w d.1)
          (at_set views port j both w c.1))
          (at_set vs other j spent w is);
    }

pub merges : (port : ℕ) (v : PassView) (other : ℕ) (u : PassView) → v.fresh ≡ false → u.fresh ≡ false → 0 < u.rights → Merges IsLineState port v other u (joined v u) spent
merges port v other u known known' right items views h at apart there =
    let both = joined v u in
    let one = read_set views port both refl in
    let keeps = merge_keeps items (with_keeper views) port other v u right apart h (read_at views port v known at)
    (ap (λ vs. get_elem? vs other) (sym one) ∙ read_at (set views port both) other u known' there) in
    subst (IsDelivered items) (ap (λ vs. set vs other spent) (sym one) ∙ sym (read_set (set views port both) other spent refl)) keeps

-- a pass that came by itself takes in another
merges_newcomer : (port other : ℕ) (u : PassView) → u.fresh ≡ false → 0 < u.rights → Merges IsLineState port newcomer other u (joined newcomer u) spent
merges_newcomer port other u known right items [] h at apart there = absurd (some-ne-none newcomer (sym at))
merges_newcomer zero zero u known right items (x ∷ xs) h at apart there = absurd (apart refl)
merges_newcomer zero (suc other) u known right items (x ∷ xs) h at apart there =
    let q : x ≡ newcomer = some-injective x newcomer at in
    let g : IsDelivered items (keeper ∷ xs) = subst (λ (y : PassView). IsDelivered items (cond y.fresh keeper y ∷ xs)) q h in
    let f : PassView → ℕ = λ w. w.rights in
    let two = two_at_most_total f (keeper ∷ xs) 0 (suc other) keeper u refl there (λ e. absurd (omega arith)) in
    let w : whole ≡ 20 = refl in
    absurd (omega (arith, g.rights))
merges_newcomer (suc port) other u known right items (x ∷ xs) h at apart there =
    let both = joined newcomer u in
    let views : List PassView = x ∷ xs in
    let one = read_set views (suc port) both refl in
    let keeps = merge_keeps items (with_keeper views) (suc port) other newcomer u right apart h at
    (ap (λ vs. get_elem? vs other) (sym one) ∙ read_at (set views (suc port) both) other u known there) in
    subst (IsDelivered items) (ap (λ vs. set vs other spent) (sym one) ∙ sym (read_set (set views (suc port) both) other spent refl)) keeps

pub gathers : (port : ℕ) (v : PassView) (other : ℕ) (u : PassView) → (v ≡ newcomer) ⊎ (v.fresh ≡ false) → u.fresh ≡ false → 0 < u.rights → Merges IsLineState port v other u (joined v u) spent
gathers port v other u may known right = ⊎_elim
    (λ (e : v ≡ newcomer). subst (λ w. Merges IsLineState port w other u (joined w u) spent) (sym e) (merges_newcomer port other u known right))
    (λ (e : v.fresh ≡ false). merges port v other u e known right)
    may
