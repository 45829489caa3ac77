-- The drains that end a crew or a race.
use Rattle.std.specs.Prelude.{◌≡◌, ◌∷◌, ◌++◌}
use Rattle.g1_replay.specs.Prelude.{stores_text, ℕ, zero, suc, List, [], Result, Ok}
use Rattle.g1_replay.specs.Prelude.{Err, Command, Drain, Call, Shape, Stop, BookFull}
use Rattle.g1_replay.specs.Playing.{At, Deeds, Prints}

-- the drains of the first k regions, in order
abbrev pub drains : ℕ → List Command
drains zero = []
drains (suc k) = drains k ++ Call (Drain k) ∷ []

-- What has regions that can be drained: its heap, which stays, what drains do, and when no more is
-- done, since a book is full. None may be made, and more behind those that were.
pub record Draining (S : Type 0) : Type 1 where
  pub layout : S → Shape
  pub did : S → List Command → List ℕ → S → Type 0
  pub full : S → Type 0
  pub none : (s : S) → did s [] [] s
  pub then : (s t u : S) (cs ds : List Command) (xs ys : List ℕ) → did s cs xs t → did t ds ys u
      → did s (cs ++ ds) (xs ++ ys) u
  pub stays : (s t : S) (cs : List Command) (xs : List ℕ) → did s cs xs t → layout t ≡ layout s

-- the same where nothing is said of drains that were not made
abbrev pub deeds_of : {S : Type 0} → Draining S → Deeds S
deeds_of d = record {
  did = λ old done undone text new. d.did old done text new;
  full = d.full;
  none = d.none;
  then = λ s t u cs ds es xs ys. d.then s t u cs ds xs ys;
}

-- How many stores there were was written, and the lines of drains of the first regions behind it,
-- with this text; at the end without a stop those of all regions. Where a book is full, it is full
-- then.
pub record HasDrained {S : Type 0} (d : Draining S) (regions stores : ℕ) (old new : At S)
    (r : Result (Unit {0}) Stop) : Type 0 where
  pub drained : ℕ
  pub text : List ℕ
  pub played : d.did old.state (drains drained) text new.state
  pub filled : r ≡ Err BookFull → d.full new.state
  pub all : r ≡ Ok tt → drained ≡ regions
  pub written : Prints old.written new.written r (stores_text stores ++ text)
