-- The commands of a trace, up to its first fault or its end.
use Rattle.std.specs.Prelude.{◌+◌, ◌∷◌, ◌++◌, ◌==◌, if◌then◌else◌}
use Rattle.g1_trace.specs.Prelude.{ℕ, List, [], nat_lt, length, option_to_list, Result, Ok, Err}
use Rattle.g1_trace.specs.Prelude.{Option, Some, None, Shape}
use Rattle.g1_trace.specs.declared.command.Command.{Command}
use Rattle.g1_trace.specs.declared.dialect.Dialect.{Dialect}
use Rattle.g1_trace.specs.declared.fault.TraceFault.{TraceFault}
use Rattle.g1_trace.specs.declared.fault.TraceFault.TheVariants.{TooLong, Cut, NoHeader}
use Rattle.g1_trace.specs.Grammar.{read_command, read_header}
use Rattle.g1_trace.specs.Words.{◌>>=◌}

-- the heap of the header, if there is one, the commands before the first fault, and the fault with
-- the number of its line
pub record Trace : Type 0 where
  pub heap : Option Shape
  pub commands : List Command
  pub fault : Option (ℕ × TraceFault)

abbrev pub faulty : Option Shape → ℕ → TraceFault → Trace
faulty heap n f = record { heap = heap; commands = []; fault = Some (n, f) }

-- these commands, and then the trace
abbrev pub before : List Command → Trace → Trace
before cs t = record { heap = t.heap; commands = cs ++ t.commands; fault = t.fault }

-- What a whole line says: the heap that is open behind it, and its command, if it has one. The
-- header comes first.
abbrev pub read_line : Dialect → Option Shape → List ℕ
    → Result (Option Shape × List Command) TraceFault
read_line d None line = do
  heap ← read_header line
  Ok (heap, [])
read_line d (Some l) line = do
  command ← read_command l d line
  Ok (Some l, option_to_list command)

-- line n, and the trace behind it
abbrev pub after_line : Option Shape → ℕ → Result (Option Shape × List Command) TraceFault
    → (Option Shape → Trace) → Trace
after_line heap n (Ok said) rest = before said.1 (rest said.0)
after_line heap n (Err f) rest = faulty heap n f

-- the end of the input behind a line that was begun, or behind none
abbrev pub at_end : Option Shape → ℕ → List ℕ → Trace
at_end heap n (b ∷ line) = faulty heap n Cut
at_end None n [] = faulty None n NoHeader
at_end (Some l) n [] = record { heap = Some l; commands = []; fault = None }

-- line n has begun with these bytes, in a trace in this dialect whose heap is open, or not yet
abbrev pub read_on : Dialect → Option Shape → ℕ → List ℕ → List ℕ → Trace
read_on d heap n line [] = at_end heap n line
read_on d heap n line (b ∷ bytes) =
    if b == 10 then after_line heap n (read_line d heap line) (λ opened.
    read_on d opened (n + 1) [] bytes)
    else if nat_lt (length line) 64 then read_on d heap n (line ++ b ∷ []) bytes
    else faulty heap n TooLong

abbrev pub read_trace : Dialect → List ℕ → Trace
read_trace d bytes = read_on d None 1 [] bytes
