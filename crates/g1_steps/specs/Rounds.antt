-- What a round of refinements does: its calls, what they add up to, and where it ends.
use Rattle.std.specs.Prelude.{◌≡◌, ◌≤◌, ◌+◌, ◌-◌, ◌/◌, ◌⊎◌, ◌∷◌, ◌++◌, if◌then◌else◌}
use Rattle.g1_steps.specs.Prelude.{ℕ, Bool, true, false, List, [], length, map, sum_by, All, nat_lt}
use Rattle.g1_steps.specs.Prelude.{not, Option, Some, None, IsSome, IsNone, Result, IfOk, IfErr}
use Rattle.g1_steps.specs.Prelude.{flat_map, Taker, Parcel, Line, taken_of, capacity_of}
use Rattle.g1_steps.specs.Prelude.{IsSameTaker, RefineReply, Refusal, NoMemory}
use Rattle.g1_steps.specs.declared.steps.refiner.Sums.{Sums}
use Rattle.g1_steps.specs.Made.{CallMade, Refined, Refused}
use Rattle.g1_steps.specs.Steps.{GainsAtMost, FoundEmpty, IsOfCalls}

-- how many calls a round makes at most, where it begins at `start` completed buffers and sees
-- `seen`
abbrev pub round_size : ℕ → ℕ → ℕ
round_size start seen = if nat_lt seen start then 0 else seen - start / 4

-- a call of a round: the parcel that was taken, and the answer of its refinement
pub record Turn : Type 0 where
  pub parcel : Parcel
  pub reply : RefineReply

abbrev pub turn_call : Turn → CallMade
turn_call t = Refined (Some t.parcel.buffer) t.reply

-- the calls of a round, of which one more may have been refused
abbrev pub round_calls : List Turn → Option Refusal → List CallMade
round_calls turns None = map turn_call turns
round_calls turns (Some refusal) = map turn_call turns ++ Refused refusal ∷ []

abbrev pub replies_of : List Turn → List RefineReply
replies_of turns = map (λ t. t.reply) turns

abbrev pub parcels_of : List Turn → List Parcel
parcels_of turns = map (λ t. t.parcel) turns

-- each of these but the last was whole
abbrev pub AreWholeButLast : List RefineReply → Type 0
AreWholeButLast [] = Unit {0}
AreWholeButLast (r ∷ []) = Unit {0}
AreWholeButLast (r ∷ s ∷ rest) = (r.short ≡ false) × AreWholeButLast (s ∷ rest)

-- What calls add up to: their sums, and their lists joined. It is short where one of them is.
pub record IsSumOf (replies : List RefineReply) (reply : RefineReply) : Type 0 where
  pub taken : reply.taken ≡ sum_by (λ r. r.taken) replies
  pub refined : reply.refined ≡ flat_map (λ r. r.refined) replies
  pub hot : reply.hot ≡ sum_by (λ r. r.hot) replies
  pub skipped : reply.skipped ≡ sum_by (λ r. r.skipped) replies
  pub whole : reply.short ≡ false → All (λ r. r.short ≡ false) replies

-- The next call was refused: room for its cards, before a buffer was taken, which happens only
-- where `lacks` holds; or the call itself, whose buffer is given up.
abbrev pub IsRefused : {S : Type 0} → (S → List CallMade → S → Type 0) → Type 0 → S → List Parcel
    → Refusal → S → List Parcel → Type 0
IsRefused did lacks old before refusal new after =
    ((refusal ≡ NoMemory) × lacks × (new ≡ old) × (after ≡ before))
    ⊎ (did old (Refused refusal ∷ []) new × GainsAtMost before 1 after)

-- The last of these turns was short.
pub record IsLastShort (turns : List Turn) : Type 0 where
  pub front : List Turn
  pub last : Turn
  pub turns_are : turns ≡ front ++ last ∷ []
  pub short : last.reply.short ≡ true

-- The last of these turns listed a card, so that the list lacks some of the room that was made.
pub record IsLastListed (turns : List Turn) : Type 0 where
  pub front : List Turn
  pub last : Turn
  pub turns_are : turns ≡ front ++ last ∷ []
  pub listed : 1 ≤ length last.reply.refined

-- A round of one caller that makes at most `most` calls: refinements of what its taker took, one
-- after the other, with these sums. Fewer are made only where the line was empty or the round is
-- short: its last call was, or the next call was refused, whose parcel is given up, or room for the
-- next call's cards. That happens only where `lacks` holds and the last call listed a card.
pub record IsRoundIn {S : Type 0} (did : S → List CallMade → S → Type 0) (lacks : Type 0)
    (old : S) (before : List Parcel) (most : ℕ) (reply : RefineReply) (after : List Parcel)
    (new : S) : Type 0 where
  pub turns : List Turn
  pub refused : Option Refusal
  pub made : did old (round_calls turns refused) new
  pub ends : IsSome refused → reply.short ≡ true
  pub taken : GainsAtMost (before ++ parcels_of turns) 1 after
  pub kept : IsNone refused → after ≡ before ++ parcels_of turns
  pub cause : reply.short ≡ true
      → IsLastShort turns ⊎ (IsSome refused ⊎ (lacks × IsLastListed turns))
  pub sums : IsSumOf (replies_of turns) reply
  pub order : AreWholeButLast (replies_of turns)
  pub few : reply.taken ≤ length turns
  pub begun : reply.short ≡ true → 1 ≤ length turns
  pub within : length turns ≤ most
  pub all : reply.short ≡ false → (length turns ≡ most) ⊎ FoundEmpty after

-- the same where nothing tells how much room the list has
abbrev pub IsRound : {S : Type 0} → (S → List CallMade → S → Type 0) → S → List Parcel → ℕ
    → RefineReply → List Parcel → S → Type 0
IsRound did = IsRoundIn did (Unit {0})

-- A round by a taker of this line that begins at `start` completed buffers, by what it saw.
abbrev pub IsRoundFrom : {S : Type 0} → (S → List CallMade → S → Type 0) → Line → ℕ → S → Taker
    → RefineReply → Taker → S → Type 0
IsRoundFrom did line start s old reply new t =
    (seen : ℕ) × (seen ≤ capacity_of line)
    × IsRound did s (taken_of old) (round_size start seen) reply (taken_of new) t

-- The same with its answer.
pub record IsWorkStep {S : Type 0} (did : S → List CallMade → S → Type 0) (line : Line)
    (start : ℕ) (s : S) (old : Taker) (result : Result RefineReply Refusal) (new : Taker)
    (t : S) : Type 0 where
  pub round : IfOk result (λ reply. IsRoundFrom did line start s old reply new t)
  pub counts : IfOk result (IsOfCalls (capacity_of line))
  pub left : IfOk result (λ reply. reply.left ≤ capacity_of line)
  pub same : IsSameTaker new old
  pub err : IfErr result (λ refusal.
      IsRefused did (Unit {0}) s (taken_of old) refusal t (taken_of new))

-- where a round stands: the caller's state, what the calls add up to, and what the taker has taken
pub record Progress (S : Type 0) : Type 0 where
  pub state : S
  pub sum : RefineReply
  pub taken : List Parcel

abbrev pub so_far : Sums → RefineReply
so_far s = record {
  taken = s.taken;
  refined = s.refined.items;
  hot = s.hot;
  skipped = s.skipped;
  left = 0;
  short = s.short;
}

abbrev pub progress : {S : Type 0} → S → Sums → Taker → Progress S
progress state sums taker = record { state = state; sum = so_far sums; taken = taken_of taker }

-- the sums with one more call
abbrev pub sums_with : RefineReply → RefineReply → RefineReply
sums_with sum reply = record {
  taken = sum.taken + reply.taken;
  refined = sum.refined ++ reply.refined;
  hot = sum.hot + reply.hot;
  skipped = sum.skipped + reply.skipped;
  left = 0;
  short = reply.short;
}

-- One more call of a round was made. The round goes on where it was whole.
pub record IsNextCall {S : Type 0} (did : S → List CallMade → S
    → Type 0) (old : Progress S) (more : Bool) (new : Progress S) : Type 0 where
  pub parcel : Parcel
  pub reply : RefineReply
  pub made : did old.state (Refined (Some parcel.buffer) reply ∷ []) new.state
  pub sum : new.sum ≡ sums_with old.sum reply
  pub one : reply.taken ≤ 1
  pub goes_on : more ≡ not reply.short
  pub taken : new.taken ≡ old.taken ++ parcel ∷ []

-- The line was empty: no call was made.
pub record IsNoCall {S : Type 0} (old : Progress S) (more : Bool) (new : Progress S) : Type 0 where
  pub ends : more ≡ false
  pub same : new ≡ old
  pub empty : FoundEmpty new.taken

abbrev pub IsNextOf : {S : Type 0} → (S → List CallMade → S → Type 0) → Progress S → Bool
    → Progress S → Type 0
IsNextOf did old more new = IsNextCall did old more new ⊎ IsNoCall old more new
