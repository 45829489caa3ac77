-- What the calls that read lines take from the reader, and which part of the trace that is.
use Rattle.std.specs.Prelude.{◌≡◌, ◌≤◌, ◌+◌, ◌*◌, ◌^◌, ◌∷◌, ◌++◌}
use Rattle.g1_replay.specs.Prelude.{ℕ, List, [], length, Bool}
use Rattle.g1_replay.specs.Prelude.{true, false, Result, Ok, Err, Option, Some, None, IsSome}
use Rattle.g1_replay.specs.Prelude.{Consumes, IsAtEnd, Shape, Command, Dialect, IsCommandOf}
use Rattle.g1_replay.specs.Prelude.{read_on, before, faulty, IsPart, Stop, Fault, ReadFailed}
use Rattle.g1_replay.specs.declared.lines.next.Next.{Next}
use Rattle.g1_replay.specs.declared.lines.next.Next.TheVariants.{End, Blank, Do}
use Rattle.g1_replay.specs.declared.lines.source.Commands.{Commands}
use Rattle.g1_replay.specs.declared.lines.source.Source.{Source}

-- x is what the reader has left, where that is known
abbrev pub IsLeftToRead : Option (List ℕ) → List ℕ → Type 0
IsLeftToRead None x = ⊥
IsLeftToRead (Some left) x = x ≡ left

-- how far a replay has come in its input: the number of the next line, and what the reader has left
pub record Spot : Type 0 where
  pub number : ℕ
  pub left : Option (List ℕ)

abbrev pub spot : ℕ → Option (List ℕ) → Spot
spot number left = record { number = number; left = left }

-- the same, with the heap of the header, once it was read
pub record Place : Type 0 where
  pub heap : Option Shape
  pub number : ℕ
  pub left : Option (List ℕ)

abbrev pub place : Option Shape → ℕ → Option (List ℕ) → Place
place heap number left = record { heap = heap; number = number; left = left }

abbrev pub with_heap : Option Shape → Spot → Place
with_heap heap s = place heap s.number s.left

-- These bytes are whole lines without a fault, from one line to another, and these are their
-- commands.
abbrev pub Passes : Dialect → Place → List ℕ → List Command → Place → Type 0
Passes d old lines cs new = (x : List ℕ)
    → read_on d old.heap old.number [] (lines ++ x) ≡ before cs (read_on d new.heap new.number [] x)

-- What comes behind whole lines, as far as it was read: nothing, where more may come or something
-- else stopped the replay; the end of the input; a line with a fault; or a beginning of a line,
-- where a read failed.
abbrev pub IsMet : Dialect → Place → List ℕ → Result Bool Stop → Type 0
IsMet d p rest (Ok false) = (rest ≡ []) × IsAtEnd p.left × IsSome p.heap
IsMet d p rest (Err (Fault f)) = (x : List ℕ) → IsLeftToRead p.left x
    → read_on d p.heap p.number [] (rest ++ x) ≡ faulty p.heap p.number f
IsMet d p rest (Err ReadFailed) = IsPart rest × (length rest ≤ 64)
IsMet d p rest r = rest ≡ []

-- Whole lines without a fault were read, from one line to another, and then what comes there. None
-- has more than one command.
pub record Reads (d : Dialect) (old new : Place) (commands : List Command)
    (r : Result Bool Stop) : Type 0 where
  pub lines : List ℕ
  pub rest : List ℕ
  pub consumed : Consumes old.left new.left (lines ++ rest)
  pub passed : Passes d old lines commands new
  pub met : IsMet d new rest r
  pub counted : old.number + length commands ≤ new.number

-- Commands are still those of the same trace, and their lines are counted in the same place.
abbrev pub IsOfTrace : Commands → Commands → Type 0
IsOfTrace old new = (new.source.ghost_name ≡ old.source.ghost_name) × (new.layout ≡ old.layout)
    × (new.dialect ≡ old.dialect)

-- Lines behind the header were read. The reader had the first bytes left, and has the second ones.
abbrev pub ReadsBehind : Commands → Commands → Option (List ℕ) × Option (List ℕ) → List Command
    → Result Bool Stop → Type 0
ReadsBehind c c' left commands r =
    Reads c.dialect (place (Some c.layout) c.source.now.number left.0)
    (place (Some c.layout) c'.source.now.number left.1) commands r

-- there are numbers for the lines of n bytes more
abbrev pub HasRoomFor : Source → ℕ → Type 0
HasRoomFor source n = source.number + n ≤ 2 ^ 20 * source.reads + 1

-- whether more lines may come
abbrev pub more_may_come : {V : Type 0} → Result V Stop → Result Bool Stop
more_may_come (Ok v) = Ok true
more_may_come (Err stop) = Err stop

-- the heap of the lines before the header, and with it
abbrev pub opened_by : Result (Option Shape) Stop → Option Shape
opened_by (Ok heap) = heap
opened_by (Err stop) = None

-- the command of a line, if it has one
abbrev pub commands_of : Result Next Stop → List Command
commands_of (Ok (Do c)) = c ∷ []
commands_of _ = []

abbrev pub next_met : Result Next Stop → Result Bool Stop
next_met (Ok End) = Ok false
next_met r = more_may_come r

-- a command, if there is one, is of the heap
abbrev pub IsNextCommandOf : Shape → Dialect → Next → Type 0
IsNextCommandOf l d End = Unit {0}
IsNextCommandOf l d Blank = Unit {0}
IsNextCommandOf l d (Do c) = IsCommandOf l d.mutators c

-- what stops the reading of a line
abbrev pub IsReadStop : Stop → Type 0
IsReadStop (Fault f) = Unit {0}
IsReadStop ReadFailed = Unit {0}
IsReadStop stop = ⊥
