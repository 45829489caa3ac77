-- Callers as they begin.
use Rattle.std.specs.Prelude.{◌≡◌, ◌+◌, ◌∷◌}
use Rattle.g1_steps.specs.Prelude.{ℕ, List, [], Line, IsNewSender}
use Rattle.g1_steps.specs.declared.steps.mutator.Mutator.{Mutator}

-- Mutator k as it begins: with an empty log of this size, and sender k, which has put nothing.
pub record IsNewMutator (line : Line) (size k : ℕ) (m : Mutator) : Type 0 where
  pub log : m.log ≡ record { size = size; cards = [] }
  pub sender : IsNewSender line k m.sender

-- mutators as they begin, numbered from k on
abbrev pub AreNewMutators : Line → ℕ → ℕ → List Mutator → Type 0
AreNewMutators line size k [] = Unit {0}
AreNewMutators line size k (m ∷ ms) =
    IsNewMutator line size k m × AreNewMutators line size (k + 1) ms
