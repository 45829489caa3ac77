-- What each command of a trace does to the machinery that it is played on, and what it answers.
use Rattle.std.specs.Prelude.{◌≡◌, ◌<◌, ◌⊎◌}
use Rattle.g1_replay.specs.Prelude.{Drain, Redirect, ℕ, Bool, true, false, List, []}
use Rattle.g1_replay.specs.Prelude.{length, set, slice_index_or, Option, Result, Ok, Err, Appends}
use Rattle.g1_replay.specs.Prelude.{Puts, Reply, History, layout_in, card_of, StoreReply}
use Rattle.g1_replay.specs.Prelude.{RefineReply, FlushReply, Refusal, Mutator, Taker, CallMade}
use Rattle.g1_replay.specs.Prelude.{AreCalls, IsBookCall, IsStoreStep, IsFlushStep, IsRefineStep}
use Rattle.g1_replay.specs.Prelude.{IsWorkStep, IsStopped, Empties, IsSameTaker, taken_of}
use Rattle.g1_replay.specs.Prelude.{capacity_of, MakesAsked, Command, store_text, refine_text}
use Rattle.g1_replay.specs.Prelude.{work_text, call_line, Stop, WriteFailed}
use Rattle.g1_core.specs.declared.entry.Call.{Call}
use Rattle.g1_trace.specs.declared.command.Command.TheVariants as command
use Rattle.g1_replay.specs.declared.runs.machinery.Machinery.{Machinery}
use Rattle.g1_replay.specs.Pieces.{flush_text}
use Rattle.g1_replay.specs.Playing.{At, stop_of, written_by}

-- This caller makes these calls at a book, and nobody else makes one.
abbrev pub CallsBy : ℕ → History → List CallMade → History → Type 0
CallsBy caller = AreCalls (IsBookCall caller)

-- A mutator makes a step. No other mutator and no taker does.
pub record MutatorSteps (by : ℕ) (Step : Mutator → Mutator → Type 0)
    (old new : Machinery) : Type 0 where
  pub before : Mutator
  pub after : Mutator
  pub there : by < length old.mutators.items
  pub own : before ≡ slice_index_or old.mutators.items by before
  pub step : Step before after
  pub mutators : new.mutators.items ≡ set old.mutators.items by after
  pub takers : new.takers ≡ old.takers
  pub line : new.line ≡ old.line

-- The first taker makes a step. No other taker does.
pub record FirstSteps (Step : Taker → Taker → Type 0) (old new : Machinery) : Type 0 where
  pub before : Taker
  pub after : Taker
  pub there : 0 < length old.takers.items
  pub own : before ≡ slice_index_or old.takers.items 0 before
  pub step : Step before after
  pub takers : new.takers.items ≡ set old.takers.items 0 after
  pub line : new.line ≡ old.line

-- a store and a flush are steps of their mutator, at its own log and sender
abbrev pub StoresAt : Machinery → ℕ → ℕ × Option ℕ → Result StoreReply Refusal → Machinery → Type 0
StoresAt old by stored result new =
    MutatorSteps by (λ before after. IsStoreStep (CallsBy by) old.line old.book before stored.0
    stored.1 (card_of (layout_in old.book) stored.0) result after new.book) old new

abbrev pub FlushesAt : Machinery → ℕ → FlushReply → Machinery → Type 0
FlushesAt old by reply new =
    MutatorSteps by (λ before after.
    IsFlushStep (CallsBy by) old.line old.book before reply after new.book) old new

-- a refinement and a round are steps of the first taker
abbrev pub RefinesAt : Machinery → Result RefineReply Refusal → Machinery → Type 0
RefinesAt old result new =
    FirstSteps (λ before after.
    IsRefineStep (CallsBy 0) old.line old.book before result after new.book) old new
    × (new.mutators ≡ old.mutators)

abbrev pub WorksAt : Machinery → Result RefineReply Refusal → Machinery → Type 0
WorksAt old result new =
    FirstSteps (λ before after. IsWorkStep (CallsBy 0) old.line old.book.machine.settings.start
    old.book before result after new.book) old new
    × (new.mutators ≡ old.mutators)

-- whether the mutators stand still for a call
abbrev pub is_pause : Call → Bool
is_pause (Drain region) = true
is_pause (Redirect from to) = true
is_pause _ = false

-- The log of each is empty.
abbrev pub AreStill : List Mutator → Type 0
AreStill mutators =
    (k : ℕ) (d : Mutator) → k < length mutators → (slice_index_or mutators k d).log.cards ≡ []

-- The mutators stand still: the log of each was emptied, and the queue by the first taker.
pub record StandStill (old new : Machinery) : Type 0 where
  pub many : length new.mutators.items ≡ length old.mutators.items
  pub stopped : (k : ℕ) (d : Mutator) → k < length old.mutators.items
      → IsStopped (slice_index_or old.mutators.items k d) (slice_index_or new.mutators.items k d)
  pub emptied : FirstSteps (λ before after. IsSameTaker after before
      × Empties (taken_of before) (capacity_of old.line) (taken_of after)) old new

-- so it is before a pause, and before another call nothing changes
abbrev pub StandIf : Bool → Machinery → Machinery → Type 0
StandIf true old new = StandStill old new
StandIf false old new =
    (new.mutators ≡ old.mutators) × (new.takers ≡ old.takers) × (new.line ≡ old.line)

-- A call of the first caller was asked of the book, for which the mutators stand still if it is a
-- pause.
pub record AnswersAt (call : Call) (old : Machinery) (result : Result Reply Refusal)
    (new : Machinery) : Type 0 where
  pub stand : StandIf (is_pause call) old new
  pub asked : MakesAsked true old.book 0 call result new.book

-- What was said of an answer of which this holds: its text, or why there is none.
abbrev pub Says : {V : Type 0} → (V → List ℕ) → (Result V Refusal → Type 0)
    → Result (List ℕ) Refusal → Type 0
Says {V} text Holds (Ok said) = (answer : V) × Holds (Ok answer) × (said ≡ text answer)
Says text Holds (Err refusal) = Holds (Err refusal)

-- A command is done, and this is the text of its answer, or why it was refused.
abbrev pub Makes : Command → (old new : Machinery) → Result (List ℕ) Refusal → Type 0
Makes (command.Store by slot target) old new =
    Says store_text (λ r. StoresAt old by (slot, target) r new)
Makes (command.Flush by) old new =
    λ said. (reply : FlushReply) × FlushesAt old by reply new × (said ≡ Ok (flush_text reply))
Makes command.Refine old new = Says refine_text (λ r. RefinesAt old r new)
Makes command.Work old new = Says work_text (λ r. WorksAt old r new)
Makes (command.Call call) old new = Says (call_line call) (λ r. AnswersAt call old r new)

-- Of an answer its text is written, or a beginning of it where a write failed. A refusal writes
-- nothing, and is what stops the replay.
abbrev pub IsSaid : Result (List ℕ) Refusal → (out out' : Option (List ℕ))
    → Result (Unit {0}) Stop → Type 0
IsSaid (Ok text) out out' r =
    ((r ≡ Ok tt) ⊎ (r ≡ Err WriteFailed)) × Puts out out' (written_by r) text
IsSaid (Err refusal) out out' r = (r ≡ Err (stop_of refusal)) × Appends out out' []

-- Something was done that says so, and what it says was written.
abbrev pub IsDoneAndSaid : (Result (List ℕ) Refusal → Type 0) → (out out' : Option (List ℕ))
    → Result (Unit {0}) Stop → Type 0
IsDoneAndSaid Done out out' r =
    (said : Result (List ℕ) Refusal) × Done said × IsSaid said out out' r

-- A call was asked of a book, and this is said of its answer.
abbrev pub IsAnswered : Call → (old new : History) → Result (List ℕ) Refusal → Type 0
IsAnswered call old new = Says (call_line call) (λ r. MakesAsked true old 0 call r new)

-- A call was asked of a book, and its answer was written.
abbrev pub IsCallPlayed : Call → (old new : At History) → Result (Unit {0}) Stop → Type 0
IsCallPlayed call old new =
    IsDoneAndSaid (IsAnswered call old.state new.state) old.written new.written

-- A command was played: it was done, and its answer was written.
abbrev pub IsPlayed : Command → (old new : At Machinery) → Result (Unit {0}) Stop → Type 0
IsPlayed c old new = IsDoneAndSaid (Makes c old.state new.state) old.written new.written
