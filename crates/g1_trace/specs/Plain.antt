-- What longer bytes begin with: a word and the byte that ends it, or the whole line of a command.
use Rattle.std.specs.Prelude.{◌≡◌, ◌≤◌, ◌∷◌, ◌++◌}
use Rattle.g1_trace.specs.Prelude.{ℕ, List, [], length, take, Ok, Option, Some, Shape}
use Rattle.g1_trace.specs.declared.command.Command.{Command}
use Rattle.g1_trace.specs.declared.dialect.Dialect.{Dialect}
use Rattle.g1_trace.specs.Grammar.{read_command}
use Rattle.g1_trace.specs.Places.{read_target}
use Rattle.g1_trace.specs.Words.{read_number, IsPart, IsSolid}

-- A number in digits, which this byte ends, and the rest.
pub record IsNumberBefore (end : ℕ) (bytes : List ℕ) (number : ℕ) (rest : List ℕ) : Type 0 where
  pub word : List ℕ
  pub apart : bytes ≡ word ++ end ∷ rest
  pub solid : IsSolid word
  pub read : read_number word ≡ Ok number

-- A number in digits or `null`, which a line feed ends, and the rest.
pub record IsTargetBefore (bytes : List ℕ) (target : Option ℕ) (rest : List ℕ) : Type 0 where
  pub word : List ℕ
  pub apart : bytes ≡ word ++ 10 ∷ rest
  pub solid : IsSolid word
  pub read : read_target word ≡ Ok target

-- The first `count` bytes are a line, its line feed among them, that asks for this.
pub record IsLineBefore (l : Shape) (d : Dialect) (bytes : List ℕ) (command : Command)
    (count : ℕ) : Type 0 where
  pub line : List ℕ
  pub front : take count bytes ≡ line ++ 10 ∷ []
  pub part : IsPart line
  pub short : length line ≤ 64
  pub asks : Ok (Some command) ≡ read_command l d line
