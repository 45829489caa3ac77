-- Mutators as they begin, with one more.
use Rattle.std.specs.Prelude.{◌≡◌, ◌+◌, ◌∷◌, ◌++◌}
use Rattle.g1_steps.specs.{ℕ, List, [], length, subst, sym, arith, All, All-nil, All-cons, Line, Mutator, IsNewMutator, AreNewMutators}

mutators_then : (line : Line) (size k : ℕ) (ms : List Mutator) (m : Mutator) → AreNewMutators line size k ms → IsNewMutator line size (k + length ms) m → AreNewMutators line size k (ms ++ m ∷ [])
mutators_then line size k [] m all new = let here : k + 0 ≡ k = omega arith in (subst (λ n. IsNewMutator line size n m) here new, tt)
mutators_then line size k (x ∷ ms) m all new = let here : k + length (x ∷ ms) ≡ (k + 1) + length ms = omega arith in (all.0, mutators_then line size (k + 1) ms m all.1 (subst (λ n. IsNewMutator line size n m) here new))

pub mutators_more : (line : Line) (size k : ℕ) (ms now : List Mutator) (m : Mutator) → now ≡ ms ++ m ∷ [] → AreNewMutators line size k ms → IsNewMutator line size (k + length ms) m → AreNewMutators line size k now
mutators_more line size k ms now m is all new = subst (AreNewMutators line size k) (sym is) (mutators_then line size k ms m all new)

-- what holds of each mutator as it begins holds of all of them
pub mutators_each : (line : Line) (size k : ℕ) (ms : List Mutator) (P : Mutator → Type 0) → ((n : ℕ) (m : Mutator) → IsNewMutator line size n m → P m) → AreNewMutators line size k ms → All P ms
mutators_each line size k [] P each all = All-nil P
mutators_each line size k (m ∷ ms) P each all = All-cons P m ms (each k m all.0) (mutators_each line size (k + 1) ms P each all.1)
