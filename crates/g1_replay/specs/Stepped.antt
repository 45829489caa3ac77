-- What the commands of a run come to, one after another: the steps of a new machinery.
use Rattle.std.specs.Prelude.{◌≡◌, ◌∷◌, ◌++◌}
use Rattle.g1_replay.specs.Prelude.{ℕ, List, [], All, vec_len, Option, Some, Ok}
use Rattle.g1_replay.specs.Prelude.{Err, Shape, Options, Command, Refusal, capacity_of}
use Rattle.g1_replay.specs.Prelude.{AreNewMutators, IsNewTaker}
use Rattle.g1_replay.specs.declared.runs.machinery.Machinery.{Machinery}
use Rattle.g1_replay.specs.Playing.{IsOpened}
use Rattle.g1_replay.specs.Played.{Makes}

-- A machinery as it is opened over this heap: a book without a call, an empty log for each mutator,
-- and a queue into which nothing was put.
pub record IsNewMachinery (layout : Shape) (o : Options) (m : Machinery) : Type 0 where
  pub book : IsOpened layout o m.book
  pub capacity : capacity_of m.line ≡ o.config.limit
  pub many : vec_len m.mutators ≡ o.mutators
  pub mutators : AreNewMutators m.line o.config.log 0 m.mutators.items
  pub takers : All (IsNewTaker m.line) m.takers.items

-- Commands were done, each by its own step at what the one before it left, and the text is that of
-- their answers, one behind the other.
abbrev pub AreMade : Machinery → List Command → List ℕ → Machinery → Type 0
AreMade old [] text new = (new ≡ old) × (text ≡ [])
AreMade old (c ∷ commands) text new =
    (mid : Machinery) × (said more : List ℕ) × Makes c old mid (Ok said)
    × AreMade mid commands more new × (text ≡ said ++ more)

-- The next command, if there is one, was refused.
abbrev pub WasRefused : Machinery → List Command → Machinery → Type 0
WasRefused old [] new = new ≡ old
WasRefused old (c ∷ []) new = (refusal : Refusal) × Makes c old new (Err refusal)
WasRefused old commands new = ⊥

-- From one machinery to another the first commands were done, with this text, and the one behind
-- them, if there is one, was refused.
pub record StepsThrough (old : Machinery) (done undone : List Command) (text : List ℕ)
    (new : Machinery) : Type 0 where
  pub reached : Machinery
  pub made : AreMade old done text reached
  pub refused : WasRefused reached undone new

-- A new machinery over this heap went through the steps of these commands, and the next one, if
-- there is one, was refused. The text is that of their answers.
pub record IsSteppedText (o : Options) (heap : Option Shape) (done undone : List Command)
    (text : List ℕ) : Type 0 where
  pub layout : Shape
  pub first : Machinery
  pub last : Machinery
  pub of : heap ≡ Some layout
  pub opened : IsNewMachinery layout o first
  pub steps : StepsThrough first done undone text last
