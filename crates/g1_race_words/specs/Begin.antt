-- What a race begins with.
use Rattle.g1_race_words.specs.Prelude.{ℕ, List}
use Rattle.g1_race_words.specs.declared.view.RaceShape.{RaceShape}

-- the shape of its heap, and the words of its table: slots, marks and the bits of pairs
pub record Start : Type 0 where
  pub shape : RaceShape
  pub words : List ℕ

-- the shape of its heap, the words of slots and marks, and the recorded pairs
pub record Begun : Type 0 where
  pub shape : RaceShape
  pub words : List ℕ
  pub pairs : List (ℕ × ℕ)
