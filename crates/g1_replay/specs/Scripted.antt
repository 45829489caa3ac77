-- A trace that is read whole before its scripts run.
use Rattle.std.specs.Prelude.{◌≡◌, ◌⊎◌}
use Rattle.g1_replay.specs.Prelude.{ℕ, List, [], false, Result, Ok, Option, Some, None}
use Rattle.g1_replay.specs.Prelude.{IfSome, IfErr, IsErrAnd, Shape, Command, Dialect, End, Stop}
use Rattle.g1_replay.specs.Prelude.{NoMemory, NoThread}
use Rattle.g1_replay.specs.Output.{IsReplayed, Streams, Tale, end_met}
use Rattle.g1_replay.specs.Playing.{MayStop}
use Rattle.g1_replay.specs.Reading.{IsReadStop, Reads, Spot, with_heap}

-- what stops a trace that was read to its end before one of its jobs is run
abbrev pub IsUnstarted : Stop → Type 0
IsUnstarted NoMemory = Unit {0}
IsUnstarted NoThread = Unit {0}
IsUnstarted stop = ⊥

-- what ends a trace that was read to its end
abbrev pub IsRunEnd : Result (Unit {0}) Stop → Type 0
IsRunEnd r = IfErr r (λ stop. IsUnstarted stop ⊎ MayStop stop)

-- The trace was not read to its end, and nothing was run and nothing written.
pub record WasUnread (d : Dialect) (old new : Spot) (r : Result (Unit {0}) Stop)
    (text : List ℕ) : Type 0 where
  pub heap : Option Shape
  pub commands : List Command
  pub ends : IsErrAnd r (λ stop. IsReadStop stop ⊎ (stop ≡ NoMemory))
  pub read : Reads d (with_heap None old) (with_heap heap new) commands (end_met r)
  pub silent : text ≡ []

-- how the scripts of these commands over this heap end, and what they print
abbrev pub ScriptEnd : Type 1
ScriptEnd = Shape → List Command → Result (Unit {0}) Stop → List ℕ → Type 0

-- scripts of traces of a dialect
pub record Scripting : Type 1 where
  pub dialect : Dialect
  pub ran : ScriptEnd

-- The trace was read to its end, and its scripts were run.
pub record WasRun (s : Scripting) (old new : Spot) (r : Result (Unit {0}) Stop)
    (text : List ℕ) : Type 0 where
  pub layout : Shape
  pub commands : List Command
  pub read : Reads s.dialect (with_heap None old) (with_heap (Some layout) new) commands (Ok false)
  pub ran : s.ran layout commands r text

-- what is read and written of such a trace, but for the line of its end
abbrev pub Scripted : Scripting → Tale
Scripted s old new r text = WasUnread s.dialect old new r text ⊎ WasRun s old new r text

-- Such a trace was replayed. The whole output is the text of its scripts that were run, or the line
-- of the trace's first fault.
abbrev pub IsScriptReplayed : Scripting → (old new : Streams) → End → Type 0
IsScriptReplayed s = IsReplayed (record {
  dialect = s.dialect;
  tells = Scripted s;
  whole = λ heap commands text. IfSome heap (λ l. s.ran l commands (Ok tt) text);
  refused = λ _ _ text. text ≡ [];
})
