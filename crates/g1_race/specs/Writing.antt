-- What a call that writes at a pause does to the words.
use Rattle.std.specs.Prelude.{◌≡◌}
use Rattle.g1_race.specs.Prelude.{ℕ, List, RaceShape, IsBegun, started}
use Rattle.g1_race.specs.declared.paused.Writer.{Writer}

abbrev pub heap_of : Writer → RaceShape
heap_of writer = writer.race.now.shape

abbrev pub words_of : Writer → List ℕ
words_of writer = writer.reader.now.start.words

-- the words have changed so, a race can begin with them, and all else is as it was
pub record Writes (old new : Writer) (Change : RaceShape → List ℕ → List ℕ → Type 0)
    : Type 0 where
  pub race : new.race ≡ old.race
  pub reader : new.reader.ghost_name ≡ old.reader.ghost_name
  pub begun : IsBegun (started (heap_of old) (words_of new))
  pub words : Change (heap_of old) (words_of old) (words_of new)
