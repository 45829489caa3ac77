-- A caller of a shared book as contracts see it, and what the steps do to it.
use Rattle.std.specs.Prelude.{◌≡◌, ◌+◌, ◌<◌, ◌≤◌, ◌∷◌, ◌++◌}
use Rattle.g1_shared.specs.Prelude.{ℕ, Bool, List, [], length, Option, Some, None}
use Rattle.g1_shared.specs.Prelude.{IfSome, IsSome, Result, OnErr, Shape, Line, Taker}
use Rattle.g1_shared.specs.Prelude.{Parcel, line_home, capacity_of, put_of, taken_of, StoreReply}
use Rattle.g1_shared.specs.Prelude.{IsLent, RefineReply}
use Rattle.g1_shared.specs.Prelude.{Mutator, Refusal, GainsAtMost}
use Rattle.g1_shared.specs.Prelude.{IsNewMutator, sender_rights, sum_by, taker_rights, whole, All}
use Rattle.g1_shared.specs.Prelude.{IfOk, Entry, Call, Reply, asked_entry, card_of, is_store}
use Rattle.g1_shared.specs.Prelude.{count_by, entries_by, History}
use Rattle.g1_steps.specs.Rounds.{IsWorkStep}
use Rattle.g1_steps.specs.Steps.{IsRefineStep, IsStoreStep, IsFlushStep}
use Rattle.g1_log.specs.declared.buffer.Buffer.{Buffer}
use Rattle.g1_log.specs.Log.{Cards}
use Rattle.g1_shared.specs.Counts.{CallerCounts, SharedTerms, CountsDid, did_more, made_by}
use Rattle.g1_shared.specs.Counts.{stored_by, IsRunTo}
use Rattle.g1_steps.specs.Marks.{MutatorMark, TakerMark, mutator_mark, taker_mark}
use Rattle.g1_steps.specs.declared.steps.mutator.FlushReply.{FlushReply}

-- A caller: its counts, its log and sender where it is a mutator, and its taker.
pub record CallerState : Type 0 where
  pub counts : CallerCounts
  pub mutator : Option Mutator
  pub taker : Taker

-- its log: none of any size where it is no mutator
abbrev pub mutator_log : Option Mutator → Cards
mutator_log None = record { size = 0; cards = [] }
mutator_log (Some m) = m.log

abbrev pub caller_log : CallerState → Cards
caller_log c = mutator_log c.mutator

-- the list of the buffers that its sender has put
abbrev pub puts_in : Option Mutator → List Buffer
puts_in None = []
puts_in (Some m) = put_of m.sender

abbrev pub puts_by : CallerState → List Buffer
puts_by c = puts_in c.mutator

-- the list of the parcels that its taker has taken
abbrev pub taken_list : CallerState → List Parcel
taken_list c = taken_of c.taker

-- the shares that a caller has of the line
abbrev pub mutator_rights : Option Mutator → ℕ
mutator_rights None = 0
mutator_rights (Some m) = sender_rights m.sender

abbrev pub caller_rights : CallerState → ℕ
caller_rights c = mutator_rights c.mutator + taker_rights c.taker

-- these callers have all ends of their line
abbrev pub AreAllCallers : List CallerState → Type 0
AreAllCallers callers = sum_by caller_rights callers ≡ whole

-- who a caller is, which no call changes
pub record CallerMark : Type 0 where
  pub number : ℕ
  pub mutator : Option MutatorMark
  pub taker : TakerMark

abbrev pub caller_mark : CallerState → CallerMark
caller_mark c = record {
  number = c.counts.number;
  mutator = mutator_mark c.mutator;
  taker = taker_mark c.taker;
}

-- The caller's ends are those of the line.
abbrev pub IsMarkOf : Line → CallerMark → Type 0
IsMarkOf line m = IfSome m.mutator (λ s. s.line ≡ line_home line) × (m.taker.line ≡ line_home line)

abbrev pub IsCallerOf : Line → CallerState → Type 0
IsCallerOf line c = IsMarkOf line (caller_mark c)

-- what holds of a caller's mutator before and after, which is there
abbrev pub OfMutators : (Mutator → Mutator → Type 0) → Option Mutator → Option Mutator → Type 0
OfMutators P (Some m) (Some n) = P m n
OfMutators P _ _ = ⊥

-- A store of a caller, with its answer: its counts tell of the call, and of the help.
pub record StoresBy (layout : Shape) (line : Line) (c : CallerState) (slot : ℕ)
    (target : Option ℕ) (result : Result StoreReply Refusal) (d : CallerState) : Type 0 where
  pub taker : d.taker ≡ c.taker
  pub step : OfMutators (λ m n. IsStoreStep (CountsDid layout) line c.counts m slot target
      (card_of layout slot) result n d.counts) c.mutator d.mutator

-- A flush of a caller, with its answer: its counts tell of the help.
pub record FlushesBy (layout : Shape) (line : Line) (c : CallerState) (reply : FlushReply)
    (d : CallerState) : Type 0 where
  pub taker : d.taker ≡ c.taker
  pub step : OfMutators (λ m n. IsFlushStep (CountsDid layout) line c.counts m reply n d.counts)
      c.mutator d.mutator

-- A refinement of a caller, with its answer: its counts tell of the call, and the reply is one of
-- that buffer.
pub record RefinesBy (layout : Shape) (line : Line) (c : CallerState)
    (result : Result RefineReply Refusal) (d : CallerState) : Type 0 where
  pub mark : caller_mark d ≡ caller_mark c
  pub mutator : d.mutator ≡ c.mutator
  pub step : IsRefineStep (CountsDid layout) line c.counts c.taker result d.taker d.counts

-- A round of a caller on these terms, with its answer: its counts tell of the calls, and the
-- replies are those of the buffers. None is a store, there are at most as many as the line holds,
-- and there is none where the round is refused.
pub record WorksBy (terms : SharedTerms) (line : Line) (c : CallerState)
    (result : Result RefineReply Refusal) (d : CallerState) : Type 0 where
  pub mark : caller_mark d ≡ caller_mark c
  pub mutator : d.mutator ≡ c.mutator
  pub stored : stored_by d.counts ≡ stored_by c.counts
  pub made : (made_by c.counts ≤ made_by d.counts)
      × (made_by d.counts ≤ made_by c.counts + capacity_of line)
  pub step : IsWorkStep (CountsDid terms.layout) line terms.settings.start c.counts c.taker result
      d.taker d.counts
  pub err : OnErr result ((d.counts ≡ c.counts) × GainsAtMost (taken_list c) 1 (taken_list d))

-- The list has grown by parcels, and no more entries were made than these.
pub record MakesFor (made : ℕ) (old : List Parcel) (made' : ℕ) (new : List Parcel) : Type 0 where
  pub parcels : List Parcel
  pub gained : new ≡ old ++ parcels
  pub within : made' ≤ made + length parcels

-- A caller at a pause: its log is empty.
pub record IsCallerAtPause (c d : CallerState) : Type 0 where
  pub mark : caller_mark d ≡ caller_mark c
  pub counts : d.counts ≡ c.counts
  pub empty : (caller_log d).cards ≡ []
  pub put : puts_by d ≡ puts_by c

-- Caller k as it begins, where the first `mutators` callers are mutators.
pub record IsNewCaller (line : Line) (log mutators k : ℕ) (c : CallerState) : Type 0 where
  pub counts : c.counts ≡ record { number = k; did = [] }
  pub some : k < mutators → IsSome c.mutator
  pub mutator : IfSome c.mutator (IsNewMutator line log k)
  pub of : IsCallerOf line c
  pub taken : taken_list c ≡ []

-- the caller after one entry more
abbrev pub called_once : CallerState → Entry → CallerState
called_once c e = record c { counts = did_more c.counts (e ∷ []) }

-- Where the call succeeded, the caller made its entry. A refusal leaves it as it was.
abbrev pub CallsOnce : {X : Type 0} → CallerState → (X → Entry) → Result X Refusal → CallerState
    → Type 0
CallsOnce old entry result new =
    IfOk result (λ x. new ≡ called_once old (entry x)) × OnErr result (new ≡ old)

-- The same of a call that was asked by its value: of its entry the refined cards are not told.
abbrev pub AsksOnce : CallerState → Call → Result Reply Refusal → CallerState → Type 0
AsksOnce old call result new =
    IfOk result (λ reply. (cards : List ℕ)
    × (new ≡ called_once old (asked_entry old.counts.number call reply cards)))
    × OnErr result (new ≡ old)

-- The caller made just the entries with its number, in this order.
abbrev pub HasOwn : List Entry → CallerState → Type 0
HasOwn entries c = c.counts.did ≡ entries_by c.counts.number entries

-- Each of these callers made just the entries with its number, and there are as many entries as
-- they made: where their numbers differ, as those of the callers of one book do, all are theirs.
pub record AreMadeBy (callers : List CallerState) (entries : List Entry) : Type 0 where
  pub each : All (HasOwn entries) callers
  pub all : length entries ≡ sum_by (λ c. made_by c.counts) callers
  pub stores : count_by is_store entries ≡ sum_by (λ c. stored_by c.counts) callers

-- What the callers of a shared book made was a permitted run, which led to the table of this book.
pub record IsTold (keeps : Bool) (terms : SharedTerms) (callers : List CallerState)
    (h : History) : Type 0 where
  pub entries : List Entry
  pub run : IsRunTo keeps terms entries h
  pub made : AreMadeBy callers entries

-- What a store of this card does to a mutator, and the buffer that its log hands out.
abbrev pub HandsOut : CallerState → ℕ → StoreReply → Option Buffer → CallerState → Type 0
HandsOut c card reply buffer d =
    OfMutators (λ m n. IsLent card reply m.log n.log buffer × (n.sender ≡ m.sender)) c.mutator
    d.mutator × (d.taker ≡ c.taker)
