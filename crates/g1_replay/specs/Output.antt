-- What a replay writes: the text of a permitted run of the commands that were read.
use Rattle.std.specs.Prelude.{◌≡◌, ◌≢◌, ◌≤◌, ◌⊎◌, ◌++◌}
use Rattle.g1_replay.specs.Prelude.{ℕ, List, [], Bool, false, Result, Ok}
use Rattle.g1_replay.specs.Prelude.{Err, Option, Some, None, IfSome, IfNone, length, Appends, Shape}
use Rattle.g1_replay.specs.Prelude.{opening, IsPermitted, Command, Dialect, TraceFault, Options}
use Rattle.g1_replay.specs.Prelude.{AppendsFront, fault_line, no_memory_line, book_full_line}
use Rattle.g1_replay.specs.Prelude.{no_thread_line, read_failed_line, read_trace, End, Stop, Fault}
use Rattle.g1_replay.specs.Prelude.{NoMemory, BookFull, NoThread, ReadFailed, WriteFailed, Mode}
use Rattle.g1_replay.specs.Prelude.{Run, Whole, Refused, Stopped, EndReadFailed, EndWriteFailed}
use Rattle.g1_replay.specs.Pieces.{Piece, AreSetBy, Walks, lines_of, entries_of}
use Rattle.g1_replay.specs.Playing.{IsUndone}
use Rattle.g1_replay.specs.Stepped.{IsSteppedText}
use Rattle.g1_replay.specs.Reading.{Reads, Spot, spot, with_heap}

-- the end of the input, or what stopped the replay
abbrev pub end_met : Result (Unit {0}) Stop → Result Bool Stop
end_met (Ok done) = Ok false
end_met (Err stop) = Err stop

-- the dialect of a trace that is replayed so
abbrev pub dialect_in : Mode → Options → Dialect
dialect_in mode o = record { mode = mode; mutators = o.mutators }

-- What is read and written of a trace, but for the line of its end: how far it has come before and
-- after, how that ends, and the text.
abbrev pub Tale : Type 1
Tale = Spot → Spot → Result (Unit {0}) Stop → List ℕ → Type 0

-- what is said of the commands of a heap, of which there is none before the header, and of a text
abbrev pub Saying : Type 1
Saying = Option Shape → List Command → List ℕ → Type 0

-- The text is that of a permitted run which belongs to the commands of a heap that were done, by a
-- book of the settings of these options, and that the steps of the commands make, with a history of
-- the run's entries; before the header there are none. The next command may have been refused.
pub record IsRunText (o : Options) (heap : Option Shape) (done undone : List Command)
    (text : List ℕ) : Type 0 where
  pub pieces : List Piece
  pub walked : Walks done pieces
  pub set : AreSetBy o.config done pieces
  pub unopened : IfNone heap (done ≡ [])
  pub permitted : IfSome heap (λ l. IsPermitted (opening l) (entries_of pieces))
  pub said : text ≡ lines_of done pieces
  pub stepped : (done ++ undone ≡ [])
      ⊎ ((s : IsSteppedText o heap done undone text) × (s.last.book.entries ≡ entries_of pieces))

-- the same where all of them were done
abbrev pub IsDoneText : Options → Option Shape → List Command → List ℕ → Type 0
IsDoneText o heap commands text = IsRunText o heap commands [] text

-- The text is that of a permitted run which belongs to the commands before the end. The run has at
-- most as many entries as these options allow, and just as many where the book is full.
pub record Told (o : Options) (old new : Spot) (r : Result (Unit {0}) Stop)
    (text : List ℕ) : Type 0 where
  pub heap : Option Shape
  pub commands : List Command
  pub done : List Command
  pub undone : List Command
  pub ends : r ≢ Err NoThread
  pub read : Reads (dialect_in Run o) (with_heap None old) (with_heap heap new) commands (end_met r)
  pub all : commands ≡ done ++ undone
  pub stopped : IsUndone (end_met r) undone
  pub unopened : IfNone heap (commands ≡ [])
  pub run : IsRunText o heap done undone text
  pub within : length (entries_of run.pieces) ≤ o.history
  pub full : r ≡ Err BookFull → length (entries_of run.pieces) ≡ o.history

-- the line of the end
abbrev pub ending_line : ℕ → Result (Unit {0}) Stop → List ℕ
ending_line n (Ok done) = []
ending_line n (Err (Fault f)) = fault_line n f
ending_line n (Err NoMemory) = no_memory_line
ending_line n (Err BookFull) = book_full_line
ending_line n (Err NoThread) = no_thread_line
ending_line n (Err ReadFailed) = read_failed_line
ending_line n (Err WriteFailed) = []

abbrev pub end_of : Result (Unit {0}) Stop → End
end_of (Ok done) = Whole
end_of (Err (Fault f)) = Refused
end_of (Err NoMemory) = Stopped
end_of (Err BookFull) = Stopped
end_of (Err NoThread) = Stopped
end_of (Err ReadFailed) = EndReadFailed
end_of (Err WriteFailed) = EndWriteFailed

-- the exit status of each end
abbrev pub exit_status : End → ℕ
exit_status Whole = 0
exit_status Refused = 2
exit_status Stopped = 3
exit_status EndReadFailed = 4
exit_status EndWriteFailed = 5

-- the end, and what was written of the text with its line
abbrev pub IsEndWritten : Option (List ℕ) → Option (List ℕ) → Result (Unit {0}) Stop → List ℕ → End
    → Type 0
IsEndWritten out out' r text EndWriteFailed = AppendsFront out out' text
IsEndWritten out out' r text end = (end ≡ end_of r) × Appends out out' text

-- The whole output: the trace has these commands and no fault, and this is their text.
pub record IsWholeOutput (IsText : Saying) (d : Dialect) (bytes : List ℕ)
    (out out' : Option (List ℕ)) : Type 0 where
  pub layout : Shape
  pub commands : List Command
  pub text : List ℕ
  pub trace : read_trace d bytes ≡ record { heap = Some layout; commands = commands; fault = None }
  pub said : IsText (Some layout) commands text
  pub written : Appends out out' text

-- The whole output: the trace has these commands before its first fault, and this is their text,
-- which the line of the fault follows.
pub record IsRefusedOutput (IsText : Saying) (d : Dialect) (bytes : List ℕ)
    (out out' : Option (List ℕ)) : Type 0 where
  pub heap : Option Shape
  pub commands : List Command
  pub number : ℕ
  pub fault : TraceFault
  pub text : List ℕ
  pub trace : read_trace d bytes ≡ record {
    heap = heap;
    commands = commands;
    fault = Some (number, fault);
  }
  pub said : IsText heap commands text
  pub written : Appends out out' (text ++ fault_line number fault)

-- How traces of a dialect are replayed: what is told of one, and what is said of the whole output
-- where it has no fault, and where it has one.
pub record Story : Type 1 where
  pub dialect : Dialect
  pub tells : Tale
  pub whole : Saying
  pub refused : Saying

-- what a reader has left, and what was written
pub record Streams : Type 0 where
  pub left : Option (List ℕ)
  pub written : Option (List ℕ)

abbrev pub streams : Option (List ℕ) → Option (List ℕ) → Streams
streams left written = record { left = left; written = written }

-- A trace was replayed from its first line on, and this is its end. The text and the line of the
-- end were written, and the whole output is known where the trace was done whole or has a fault.
pub record IsReplayed (s : Story) (old new : Streams) (end : End) : Type 0 where
  pub told : (number : ℕ) × (outcome : Result (Unit {0}) Stop) × (text : List ℕ)
      × s.tells (spot 1 old.left) (spot number new.left) outcome text
      × IsEndWritten old.written new.written outcome (text ++ ending_line number outcome) end
  pub whole : end ≡ Whole
      → IfSome old.left (λ bytes. IsWholeOutput s.whole s.dialect bytes old.written new.written)
  pub refused : end ≡ Refused
      → IfSome old.left (λ bytes. IsRefusedOutput s.refused s.dialect bytes old.written new.written)

-- a trace of calls that are made one by one
abbrev pub running : Options → Story
running o = record {
  dialect = dialect_in Run o;
  tells = Told o;
  whole = IsDoneText o;
  refused = IsDoneText o;
}

abbrev pub end_or_failed : {V E : Type 0} → Result V E → End → End
end_or_failed (Ok v) end = end
end_or_failed (Err e) end = EndWriteFailed
