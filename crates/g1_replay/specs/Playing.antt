-- What is done with the commands of a trace, between two states of the reader, the writer and the
-- one that plays.
use Rattle.std.specs.Prelude.{◌≡◌, ◌≤◌, ◌∷◌, ◌++◌, ◌⊎◌, ◌<◌, ◌+◌}
use Rattle.g1_replay.specs.Prelude.{ℕ, List, [], Bool, Result}
use Rattle.g1_replay.specs.Prelude.{Ok, Err, Option, length, take, IfErr, IfSome, IsNone, OnOk}
use Rattle.g1_replay.specs.Prelude.{Consumes, Shape, Line, capacity_of, History, opened, layout_in}
use Rattle.g1_replay.specs.Prelude.{Grows, Refusal, Command, Dialect, Options, Puts, Stop, NoMemory}
use Rattle.g1_replay.specs.Prelude.{BookFull, WriteFailed}
use Rattle.g1_history.specs.declared.refusal.Refusal.TheVariants as refusal
use Rattle.g1_replay.specs.declared.lines.source.Commands.{Commands}
use Rattle.g1_replay.specs.Pieces.{Piece, AreSetBy, Walks, lines_of, entries_of}
use Rattle.g1_replay.specs.Reading.{IsOfTrace, IsReadStop, ReadsBehind, more_may_come}

-- A new book over this layout, on the terms that the options say, whose machine is new.
abbrev pub IsOpened : Shape → Options → History → Type 0
IsOpened layout o book = book ≡ opened layout o.config o.mutators o.history

-- What plays commands over this heap in this dialect: its book is of them, with a mutator for each
-- that they name, and a queue of as many completed buffers as the settings of the book say.
abbrev pub IsReady : History → ℕ → Line → Shape → Dialect → Type 0
IsReady book mutators line layout dialect =
    (layout_in book ≡ layout) × (book.mutators ≡ dialect.mutators) × (mutators ≡ dialect.mutators)
    × (1 ≤ dialect.mutators) × (capacity_of line ≡ book.machine.settings.limit)

-- the history has as many entries as it may have
abbrev pub IsBookFull : History → Type 0
IsBookFull book = length book.entries ≡ book.limit

-- what a refused call makes of a replay
abbrev pub stop_of : Refusal → Stop
stop_of refusal.NoMemory = NoMemory
stop_of refusal.BookFull = BookFull

-- The calls of these commands were made and entered, as the settings of the book allow, and this is
-- their text.
pub record HasPlayed (old : History) (cs : List Command) (text : List ℕ)
    (new : History) : Type 0 where
  pub pieces : List Piece
  pub walked : Walks cs pieces
  pub set : AreSetBy old.machine.settings cs pieces
  pub grows : Grows old (entries_of pieces) new
  pub said : text ≡ lines_of cs pieces

-- whether a write failed
abbrev pub written_by : {V : Type 0} → Result V Stop → Result (Unit {0}) (Unit {0})
written_by (Err WriteFailed) = Err tt
written_by r = Ok tt

-- All of the text was written, or a beginning of it where a write failed.
abbrev pub Prints : {V : Type 0} → Option (List ℕ) → Option (List ℕ) → Result V Stop → List ℕ
    → Type 0
Prints out out' r text = Puts out out' (written_by r) text

-- A text of which this holds was written, or a beginning of it where a write failed.
abbrev pub PrintsSome : (Result (Unit {0}) Stop → List ℕ → Type 0) → Option (List ℕ)
    → Option (List ℕ) → Result (Unit {0}) Stop → Type 0
PrintsSome Holds out out' r = (text : List ℕ) × Holds r text × Prints out out' r text

-- The commands that were read and not done: the one that was refused for a full book, one at most
-- for refused memory, and no other.
abbrev pub IsUndone : {V : Type 0} → Result V Stop → List Command → Type 0
IsUndone (Err BookFull) commands = (c : Command) × (commands ≡ c ∷ [])
IsUndone (Err NoMemory) commands = length commands ≤ 1
IsUndone r commands = commands ≡ []

-- what stops a command
abbrev pub MayStop : Stop → Type 0
MayStop NoMemory = Unit {0}
MayStop BookFull = Unit {0}
MayStop WriteFailed = Unit {0}
MayStop stop = ⊥

-- What is done between two states: the commands that were done, those that were not, and the text;
-- and when no more is, since a book is full. Nothing may be done, and more behind what was.
pub record Deeds (S : Type 0) : Type 1 where
  pub did : S → List Command → List Command → List ℕ → S → Type 0
  pub full : S → Type 0
  pub none : (s : S) → did s [] [] [] s
  pub then : (s t u : S) (cs ds es : List Command) (xs ys : List ℕ) → did s cs [] xs t
      → did t ds es ys u → did s (cs ++ ds) es (xs ++ ys) u

-- A player: over which heap and in which dialect it takes commands, what it does with them, and
-- what may stop one.
pub record Plays (S : Type 0) : Type 1 where
  pub takes : S → Shape → Dialect → Type 0
  pub deeds : Deeds S
  pub stops : Stop → Type 0
  pub may_stop : (stop : Stop) → stops stop → MayStop stop

-- a state, and what was written
pub record At (S : Type 0) : Type 0 where
  pub state : S
  pub written : Option (List ℕ)

abbrev pub at : {S : Type 0} → S → Option (List ℕ) → At S
at state written = record { state = state; written = written }

-- Commands were done up to what stopped the replay, if anything did, and their text was written.
-- Where a book is full, it is full then.
pub record Does {S : Type 0} (deeds : Deeds S) (commands : List Command) (old new : At S)
    (r : Result Bool Stop) : Type 0 where
  pub done : List Command
  pub undone : List Command
  pub all : commands ≡ done ++ undone
  pub stopped : IsUndone r undone
  pub text : List ℕ
  pub made : deeds.did old.state done undone text new.state
  pub filled : r ≡ Err BookFull → deeds.full new.state
  pub written : Prints old.written new.written r text

-- how far the commands of a trace have come, and what plays them
pub record Scene (S : Type 0) : Type 0 where
  pub commands : Commands
  pub at : At S

abbrev pub scene : {S : Type 0} → Commands → S → Option (List ℕ) → Scene S
scene commands state written = record { commands = commands; at = at state written }

-- Lines were read, and their commands were done. The reader had the first bytes left, and has the
-- second ones.
pub record Follows {S : Type 0} (deeds : Deeds S) (old new : Scene S)
    (left : Option (List ℕ) × Option (List ℕ)) (r : Result Bool Stop) : Type 0 where
  pub commands : List Command
  pub read : ReadsBehind old.commands new.commands left commands r
  pub done : Does deeds commands old.at new.at r

-- These bytes were taken from a reader, whatever it has behind them: lines that were read, and
-- their commands were done.
abbrev pub FollowsFront : {S : Type 0} → Deeds S → Scene S → Scene S → List ℕ → Result Bool Stop
    → Type 0
FollowsFront deeds old new bytes r =
    (rd rd' : Option (List ℕ)) → Consumes rd rd' bytes → Follows deeds old new (rd, rd') r

-- The line that these bytes begin with was played, if it is there as a whole: the result says how
-- many bytes it takes, and what stopped it. Otherwise nothing was done.
pub record PlaysFirst {S : Type 0} (plays : Plays S) (old new : Scene S) (bytes : List ℕ)
    (r : Option (ℕ × Result (Unit {0}) Stop)) : Type 0 where
  pub same : IsOfTrace old.commands new.commands
  pub reads : new.commands.source.now.reads ≡ old.commands.source.now.reads
  pub followed : IfSome r (λ p. FollowsFront plays.deeds old new (take p.0 bytes)
      (more_may_come p.1))
  pub within : IfSome r (λ p. (0 < p.0) × (p.0 ≤ length bytes))
  pub counted : new.commands.source.now.number ≤ old.commands.source.now.number + 1
  pub stops : IfSome r (λ p. IfErr p.1 (λ stop. IsReadStop stop ⊎ plays.stops stop))
  pub takes : IfSome r (λ p.
      OnOk p.1 (plays.takes new.at.state new.commands.layout new.commands.dialect))
  pub none : IsNone r
      → (new.commands.source.now.number ≡ old.commands.source.now.number)
      × (new.at.state ≡ old.at.state) × (new.at.written ≡ old.at.written)
