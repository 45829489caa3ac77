-- What a writer holds after text was put into it.
use Rattle.std.specs.Prelude.{◌≡◌, ◌++◌}
use Rattle.g1_trace.specs.Prelude.{ℕ, List, MatchResult, Result, Option, Appends}

-- The known bytes grew by a beginning of the text.
abbrev pub AppendsFront : Option (List ℕ) → Option (List ℕ) → List ℕ → Type 0
AppendsFront old new text =
    (front : List ℕ) × (left : List ℕ) × Appends old new front × (text ≡ front ++ left)

-- At `Ok` the whole text was appended, at `Err` a beginning of it.
abbrev pub Puts : {V E : Type 0} → Option (List ℕ) → Option (List ℕ) → Result V E → List ℕ → Type 0
Puts old new result text =
    MatchResult result (λ _. Appends old new text) (λ _. AppendsFront old new text)
