-- The texts of the defaults are the decimals of their numbers.
use Rattle.std.specs.Prelude.{◌≡◌, ◌++◌, ◌∷◌, ◌<◌, ◌≤◌, ◌+◌, ◌/◌, ◌%◌, ◌^◌}
use Rattle.std.proofs.Common.{ℕ, List, [], ap, sym, ◌∙◌, codes, arith}
use Rattle.std.specs.Fmt.{decimal}
use Rattle.std.proofs.lemmas.Fmt.{decimal_digit, decimal_step}
use Rattle.clap.specs.Words.{Text}
use Rattle.g1_core.specs.declared.config.Limits.{Limits}
use Rattle.g1_options.specs.CommandLine.{option_rule, spelled_rule}

-- one digit more
longer : (n : ℕ) (front : List ℕ) → 10 ≤ n → n < 2 ^ 64 → decimal (n / 10) ≡ front → decimal n ≡ front ++ (48 + n % 10) ∷ []
longer n front some small is = decimal_step n some small ∙ ap (λ (l : List ℕ). l ++ (48 + n % 10) ∷ []) is

pub decimal_1 : decimal 1 ≡ codes "1"
decimal_1 = decimal_digit 1 (omega arith)

pub decimal_4 : decimal 4 ≡ codes "4"
decimal_4 = decimal_digit 4 (omega arith)

pub decimal_5 : decimal 5 ≡ codes "5"
decimal_5 = decimal_digit 5 (omega arith)

pub decimal_10 : decimal 10 ≡ codes "10"
decimal_10 = longer 10 _ (omega arith) (omega arith) decimal_1

pub decimal_100 : decimal 100 ≡ codes "100"
decimal_100 = longer 100 _ (omega arith) (omega arith) decimal_10

pub decimal_256 : decimal 256 ≡ codes "256"
decimal_256 = longer 256 _ (omega arith) (omega arith) (longer 25 _ (omega arith) (omega arith) (decimal_digit 2 (omega arith)))

pub decimal_1024 : decimal 1024 ≡ codes "1024"
decimal_1024 = longer 1024 _ (omega arith) (omega arith) (longer 102 _ (omega arith) (omega arith) decimal_10)

decimal_10000 : decimal 10000 ≡ codes "10000"
decimal_10000 = longer 10000 _ (omega arith) (omega arith) (longer 1000 _ (omega arith) (omega arith) decimal_100)

pub decimal_1000000 : decimal 1000000 ≡ codes "1000000"
decimal_1000000 = longer 1000000 _ (omega arith) (omega arith) (longer 100000 _ (omega arith) (omega arith) decimal_10000)

-- an option whose default is spelled so
pub spelled : (name : Text) (limits : Limits) {text : Text} → decimal limits.default ≡ text → spelled_rule name limits text ≡ option_rule name limits
spelled name limits is = ap (λ (t : Text). spelled_rule name limits t) (sym is)
