-- What the steps of a caller do: the calls that they make, what becomes of a completed buffer, and
-- what was taken from the line.
use Rattle.std.specs.Prelude.{◌≡◌, ◌≢◌, ◌≤◌, ◌+◌, ◌*◌, ◌^◌, ◌⊎◌, ◌↔◌, ◌∷◌, ◌++◌}
use Rattle.g1_steps.specs.Prelude.{ℕ, true, false, List, [], length, Option, Some, None, Result, Ok}
use Rattle.g1_steps.specs.Prelude.{Err, IsSome, IsNone, IfOk, IfErr, OnErr, Logged, Line, Taker}
use Rattle.g1_steps.specs.Prelude.{Parcel, put_of, taken_of, capacity_of, IsSameSender, IsSameTaker}
use Rattle.g1_steps.specs.Prelude.{WasFull, WasEmpty, logged, buffer_of, No, Full, Helped}
use Rattle.g1_steps.specs.Prelude.{StoreReply, RefineReply, Refusal}
use Rattle.g1_log.specs.declared.ends.Sender.{Sender}
use Rattle.g1_log.specs.declared.buffer.Buffer.{Buffer}
use Rattle.g1_core.specs.declared.reply.Fill.{Fill}
use Rattle.g1_steps.specs.declared.steps.mutator.FlushReply.{FlushReply}
use Rattle.g1_steps.specs.declared.steps.mutator.Mutator.{Mutator}
use Rattle.g1_steps.specs.declared.steps.mutator.Passed.{Passed}
use Rattle.g1_steps.specs.Made.{CallMade, Stored, Refined, Refused, refines}

-- What became of a buffer that left its log: the line took it, or its mutator helped: refined it by
-- a call with this result.
abbrev pub Help : Type 0
Help = Option (Result RefineReply Refusal)

abbrev pub help_calls : List ℕ → Help → List CallMade
help_calls cards None = []
help_calls cards (Some result) = refines (Some cards) result ∷ []

-- what its mutator answers of it
abbrev pub passed : Help → Passed
passed None = record { fill = Full; refined = []; short = false }
passed (Some (Ok reply)) = record { fill = Helped; refined = reply.refined; short = reply.short }
passed (Some (Err _)) = record { fill = Helped; refined = []; short = true }

-- A buffer of these cards was passed on.
pub record IsPassed {S : Type 0} (did : S → List CallMade → S
    → Type 0) (old : S) (cards : List ℕ) (p : Passed) (new : S) : Type 0 where
  pub help : Help
  pub made : did old (help_calls cards help) new
  pub answer : p ≡ passed help

-- the answer of a store whose own answer was the first
abbrev pub store_answer : StoreReply → Help → StoreReply
store_answer first None = first
store_answer first (Some (Ok reply)) =
    record first { fill = Helped; refined = reply.refined; short = reply.short }
store_answer first (Some (Err _)) = record first { fill = Helped; refined = []; short = true }

-- the answer of a flush of `cards` cards
abbrev pub flush_answer : ℕ → Help → FlushReply
flush_answer cards help = record {
  cards = cards;
  fill = (passed help).fill;
  refined = (passed help).refined;
  short = (passed help).short;
}

-- the answer of a flush of an empty log
abbrev pub nothing_flushed : FlushReply
nothing_flushed = record { cards = 0; fill = No; refined = []; short = false }

-- the answer of a store that filled its log
abbrev pub filled : StoreReply
filled = record { kind = Logged; fill = Full; refined = []; short = false }

-- A store by one caller: its own call, and that of a help where it filled a log of these cards.
pub record IsStored {S : Type 0} (did : S → List CallMade → S
    → Type 0) (old : S) (slot : ℕ) (target : Option ℕ) (cards : List ℕ) (reply : StoreReply)
    (new : S) : Type 0 where
  pub first : StoreReply
  pub help : Help
  pub made : did old (Stored slot target first ∷ help_calls cards help) new
  pub answer : reply ≡ store_answer first help
  pub plain : (first.refined ≡ []) × (first.short ≡ false)
  pub own : first.fill ≢ Helped
  pub full : first.fill ≡ Full → first ≡ filled
  pub helps : IsSome help → first.fill ≡ Full

-- A flush of a log with these cards: nothing where there are none.
pub record IsFlushPassed {S : Type 0} (did : S → List CallMade → S
    → Type 0) (old : S) (cards : List ℕ) (reply : FlushReply) (new : S) : Type 0 where
  pub some : 1 ≤ length cards
  pub help : Help
  pub made : did old (help_calls cards help) new
  pub answer : reply ≡ flush_answer (length cards) help

abbrev pub IsFlushed : {S : Type 0} → (S → List CallMade → S → Type 0) → S → List ℕ → FlushReply → S
    → Type 0
IsFlushed did old cards reply new =
    ((cards ≡ []) × (reply ≡ nothing_flushed) × (new ≡ old)) ⊎ IsFlushPassed did old cards reply new

-- A sender's list gains a buffer of these cards where the line took it, and stays otherwise.
abbrev pub PutsBy : Fill → List ℕ → List Buffer → List Buffer → Type 0
PutsBy Full cards old new = new ≡ old ++ cards ∷ []
PutsBy No cards old new = new ≡ old
PutsBy Helped cards old new = new ≡ old

-- The line may refuse a buffer of the sender: it was full at some moment, or the sender has put as
-- many as it may.
abbrev pub MayRefuse : Line → Sender → Type 0
MayRefuse line sender = (length (put_of sender) ≡ 2 ^ 58) ⊎ WasFull line sender

-- A store by a mutator at this line, with its answer: the calls that it makes, what becomes of the
-- log and of a buffer that the card fills, and what is left where it is refused.
pub record IsStoreStep {S : Type 0} (did : S → List CallMade → S → Type 0) (line : Line) (s : S)
    (old : Mutator) (slot : ℕ) (target : Option ℕ) (card : ℕ)
    (result : Result StoreReply Refusal) (new : Mutator) (t : S) : Type 0 where
  pub stored : IfOk result (λ reply.
      IsStored did s slot target (old.log.cards ++ card ∷ []) reply t)
  pub log : IfOk result (λ reply. new.log ≡ logged reply.kind old.log card)
  pub fill : IfOk result (λ reply.
      (reply.fill ≡ No) ↔ IsNone (buffer_of reply.kind old.log card))
  pub put : IfOk result (λ reply.
      PutsBy reply.fill (old.log.cards ++ card ∷ []) (put_of old.sender) (put_of new.sender))
  pub helped : IfOk result (λ reply. reply.fill ≡ Helped → MayRefuse line old.sender)
  pub empty : IfOk result (λ reply. reply.fill ≢ No → new.log.cards ≡ [])
  pub same : IsSameSender new.sender old.sender
  pub err : IfErr result (λ refusal. did s (Refused refusal ∷ []) t)
  pub err_ends : OnErr result ((new.log ≡ old.log) × (new.sender ≡ old.sender))

-- A flush by a mutator at this line, with its answer.
pub record IsFlushStep {S : Type 0} (did : S → List CallMade → S → Type 0) (line : Line) (s : S)
    (old : Mutator) (reply : FlushReply) (new : Mutator) (t : S) : Type 0 where
  pub flushed : IsFlushed did s old.log.cards reply t
  pub cards : reply.cards ≡ length old.log.cards
  pub log : new.log ≡ record { size = old.log.size; cards = [] }
  pub put : PutsBy reply.fill old.log.cards (put_of old.sender) (put_of new.sender)
  pub helped : reply.fill ≡ Helped → MayRefuse line old.sender
  pub same : IsSameSender new.sender old.sender

-- What a take gave: the parcel that the taker's list gained, or none, where the queue was empty at
-- some moment.
abbrev pub IsTake : Taker → Option Parcel → Taker → Type 0
IsTake old None new = (taken_of new ≡ taken_of old) × WasEmpty old
IsTake old (Some x) new = taken_of new ≡ taken_of old ++ x ∷ []

-- the buffer of a parcel, if there is one
abbrev pub buffer_in : Option Parcel → Option (List ℕ)
buffer_in None = None
buffer_in (Some x) = Some x.buffer

-- the answer of a refinement as it was called: how many buffers the line has is no part of it
abbrev pub called : RefineReply → RefineReply
called reply = record reply { left = 0 }

-- A refinement of what the line gave.
pub record IsRefinement {S : Type 0} (did : S → List CallMade → S
    → Type 0) (old : S) (before : Taker) (reply : RefineReply) (after : Taker)
    (new : S) : Type 0 where
  pub parcel : Option Parcel
  pub take : IsTake before parcel after
  pub made : did old (Refined (buffer_in parcel) (called reply) ∷ []) new

-- A taker's list gains at most `most` parcels.
pub record GainsAtMost (old : List Parcel) (most : ℕ) (new : List Parcel) : Type 0 where
  pub parcels : List Parcel
  pub gained : new ≡ old ++ parcels
  pub few : length parcels ≤ most

-- What at most this many calls of refinement add up to.
abbrev pub IsOfCalls : ℕ → RefineReply → Type 0
IsOfCalls most reply =
    (reply.taken ≤ most) × (length reply.refined + reply.skipped ≤ 256 * most)
    × (reply.hot ≤ 256 * most)

-- A refinement of one buffer by a taker of this line, with its answer.
pub record IsRefineStep {S : Type 0} (did : S → List CallMade → S → Type 0) (line : Line) (s : S)
    (old : Taker) (result : Result RefineReply Refusal) (new : Taker) (t : S) : Type 0 where
  pub refined : IfOk result (λ reply. IsRefinement did s old reply new t)
  pub counts : IfOk result (IsOfCalls 1)
  pub left : IfOk result (λ reply. reply.left ≤ capacity_of line)
  pub one : IfOk result (λ reply.
      reply.taken ≡ 1 → (x : Parcel) × (taken_of new ≡ taken_of old ++ x ∷ []))
  pub same : IsSameTaker new old
  pub err : IfErr result (λ refusal. did s (Refused refusal ∷ []) t)
  pub given_up : OnErr result (GainsAtMost (taken_of old) 1 (taken_of new))

-- A taker that had taken these parcels found the queue empty at some moment.
pub record FoundEmpty (taken : List Parcel) : Type 0 where
  pub taker : Taker
  pub has : taken_of taker ≡ taken
  pub empty : WasEmpty taker

-- A taker emptied a line of at most `most` parcels: it took as many as that, or fewer, and then it
-- found the queue empty.
pub record Empties (old : List Parcel) (most : ℕ) (new : List Parcel) : Type 0 where
  pub parcels : List Parcel
  pub gained : new ≡ old ++ parcels
  pub few : length parcels ≤ most
  pub ends : (length parcels ≡ most) ⊎ FoundEmpty new

-- A mutator at a pause: its log was emptied.
pub record IsStopped (old new : Mutator) : Type 0 where
  pub log : new.log ≡ record { size = old.log.size; cards = [] }
  pub sender : new.sender ≡ old.sender
