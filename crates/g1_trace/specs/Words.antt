-- The words of a line, and the numbers that words are.
use Rattle.std.specs.Prelude.{◌≢◌, ◌+◌, ◌-◌, ◌*◌, ◌∷◌, ◌++◌, ◌==◌, if◌then◌else◌}
use Rattle.g1_trace.specs.Prelude.{ℕ, Bool, false, List, [], nat_lt, length, Result, Ok, Err}
use Rattle.g1_trace.specs.Prelude.{is_ascii_digit}
use Rattle.g1_trace.specs.declared.fault.TraceFault.{TraceFault}
use Rattle.g1_trace.specs.declared.fault.TraceFault.TheVariants.{NotNumber}

-- bytes without a line feed
abbrev pub IsPart : List ℕ → Type 0
IsPart [] = Unit {0}
IsPart (b ∷ bytes) = (b ≢ 10) × IsPart bytes

-- bytes without a space, and without a line feed
abbrev pub IsSolid : List ℕ → Type 0
IsSolid [] = Unit {0}
IsSolid (b ∷ bytes) = (b ≢ 32) × (b ≢ 10) × IsSolid bytes

-- a word that has ended, unless it has no byte
abbrev pub with_word : List ℕ → List (List ℕ) → List (List ℕ)
with_word [] words = words
with_word (b ∷ bytes) words = (b ∷ bytes) ∷ words

-- the words of the bytes, where `word` is the beginning of the first
abbrev pub words_from : List ℕ → List ℕ → List (List ℕ)
words_from word [] = with_word word []
words_from word (b ∷ bytes) =
    if b == 32 then with_word word (words_from [] bytes) else words_from (word ++ b ∷ []) bytes

-- a remark begins with the byte of `#`
abbrev pub is_remark_word : List ℕ → Bool
is_remark_word [] = false
is_remark_word (b ∷ bytes) = b == 35

-- the value of digits, after others whose value is n
abbrev pub read_digits : ℕ → List ℕ → Result ℕ TraceFault
read_digits n [] = Ok n
read_digits n (b ∷ bytes) =
    if is_ascii_digit b then read_digits (n * 10 + (b - 48)) bytes else Err NotNumber

-- a number is a word of 1 to 10 digits
abbrev pub read_number : List ℕ → Result ℕ TraceFault
read_number [] = Err NotNumber
read_number (b ∷ bytes) =
    if nat_lt 10 (length (b ∷ bytes)) then Err NotNumber else read_digits 0 (b ∷ bytes)

-- one reading and then another, of which the first fault decides
infixl 10 ◌>>=◌
abbrev pub ◌>>=◌ : {A B : Type 0} → Result A TraceFault → (A → Result B TraceFault)
    → Result B TraceFault
(Ok x) >>= f = f x
(Err e) >>= f = Err e
