-- The views of the passes, with the first one as the keeper.
use Rattle.std.specs.Prelude.{◌≡◌, ◌≤◌, ◌∷◌, ◌++◌}
use Rattle.g1_log.specs.{ℕ, zero, suc, Bool, true, false, cond, List, [], set, sym, refl, ap, ◌∙◌, arith, some, some-injective, some-ne-none, get_elem?, PassView, one_if, keeper, with_keeper}

pub read_set : (views : List PassView) (port : ℕ) (w : PassView) → w.fresh ≡ false → with_keeper (set views port w) ≡ set (with_keeper views) port w
read_set [] port w e = refl
read_set (x ∷ xs) zero w e = ap (λ (b : Bool). cond b keeper w ∷ xs) e
read_set (x ∷ xs) (suc port) w e = refl

pub read_at : (views : List PassView) (port : ℕ) (v : PassView) → v.fresh ≡ false → get_elem? views port ≡ some v → get_elem? (with_keeper views) port ≡ some v
read_at [] port v k e = absurd (some-ne-none v (sym e))
read_at (x ∷ xs) zero v k e =
    let q : x ≡ v = some-injective x v e in
    ap (λ (y : PassView). some (cond y.fresh keeper y)) q ∙ ap (λ (b : Bool). some (cond b keeper v)) k
read_at (x ∷ xs) (suc port) v k e = e

pub read_snoc : (views : List PassView) (port : ℕ) (v w : PassView) → get_elem? views port ≡ some v → with_keeper (views ++ w ∷ []) ≡ with_keeper views ++ w ∷ []
read_snoc [] port v w e = absurd (some-ne-none v (sym e))
read_snoc (x ∷ xs) port v w e = refl

pub one_if_le : (b : Bool) → one_if b ≤ 1
one_if_le true = omega arith
one_if_le false = omega arith

pub set_there : (views : List PassView) (port : ℕ) (v w : PassView) → get_elem? views port ≡ some v → get_elem? (set views port w) port ≡ some w
set_there [] port v w e = absurd (some-ne-none v (sym e))
set_there (x ∷ xs) zero v w e = refl
set_there (x ∷ xs) (suc port) v w e = set_there xs port v w e
