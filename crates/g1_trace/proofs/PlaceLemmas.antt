-- Another number of words than the places are.
use Rattle.std.specs.Prelude.{◌≡◌, ◌≢◌, ◌<◌, ◌∷◌}
use Rattle.g1_trace.specs.{ℕ, length, refl, List, [], arith, Err, Place, read_none, read_one, read_two, read_three}
use Rattle.g1_trace.specs.declared.fault.TraceFault.TheVariants.{Words}

pub some_word : (ws : List (List ℕ)) → 0 < length ws → read_none ws ≡ Err Words
some_word [] h = absurd (omega arith)
some_word (a ∷ ws) h = refl

pub not_one : {V : Type 0} (p : Place V) (ws : List (List ℕ)) → length ws ≢ 1 → read_one p ws ≡ Err Words
not_one p [] h = refl
not_one p (a ∷ []) h = absurd (h refl)
not_one p (a ∷ b ∷ ws) h = refl

pub not_two : {V W : Type 0} (p : Place V) (q : Place W) (ws : List (List ℕ)) → length ws ≢ 2 → read_two p q ws ≡ Err Words
not_two p q [] h = refl
not_two p q (a ∷ []) h = refl
not_two p q (a ∷ b ∷ []) h = absurd (h refl)
not_two p q (a ∷ b ∷ c ∷ ws) h = refl

pub not_three : {V W U : Type 0} (p : Place V) (q : Place W) (r : Place U) (ws : List (List ℕ)) → length ws ≢ 3 → read_three p q r ws ≡ Err Words
not_three p q r [] h = refl
not_three p q r (a ∷ []) h = refl
not_three p q r (a ∷ b ∷ []) h = refl
not_three p q r (a ∷ b ∷ c ∷ []) h = absurd (h refl)
not_three p q r (a ∷ b ∷ c ∷ d ∷ ws) h = refl
