-- Handles in a row.
use Rattle.std.specs.Prelude.{◌≡◌, ◌+◌, ◌<◌, ◌∷◌, ◌++◌}
use Rattle.g1_handles.specs.{ℕ, List, [], All, length, map, take, slice_index_or, sym, ap, ◌∙◌, subst, suc, arith, map-append, length-map, get_or-map, take-suc}

-- what is so of all is so of the one at k
pub at_handle : {H V : Type 0} (value : H → V) (P : V → Type 0) (hs : List H) (k : ℕ) (h : H) → k < length hs → All P (map value hs) → P (value (slice_index_or hs k h))
at_handle value P hs k h below all =
    subst P (get_or-map value hs k h) (all k (value h) (subst (λ n. k < n) (sym (length-map hs value)) below))

-- what is known of a row grows by the next one
pub view_next : {A B H V : Type 0} (value : H → V) (f : A → B) (g : V → B) (xs ys : List A) (a : A) (hs : List H) (n : ℕ) (h : H) → n < length hs → ys ≡ xs ++ a ∷ []
    → map f xs ≡ map g (map value (take n hs)) → f a ≡ g (value (slice_index_or hs n h)) → map f ys ≡ map g (map value (take (n + 1) hs))
view_next {A} {B} {H} {V} value f g xs ys a hs n h below items so is =
    let x = slice_index_or hs n h in
    let row = map value (take n hs) in
    let next : n + 1 ≡ suc n = omega arith in
    ap (map f) items ∙ (map-append f xs (a ∷ []) ∙ (ap (λ (vs : List B). vs ++ f a ∷ []) so ∙ (ap (λ (v : B). map g row ++ v ∷ []) is
    ∙ sym (ap (λ (l : List H). map g (map value l)) (ap (λ m. take m hs) next ∙ take-suc hs n h below) ∙ (ap (map g) (map-append value (take n hs) (x ∷ [])) ∙ map-append g row (value x ∷ []))))))
