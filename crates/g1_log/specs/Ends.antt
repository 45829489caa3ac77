-- The line and its ends, as contracts speak of them.
use Rattle.std.specs.Prelude.{◌≡◌, ◌≤◌, ◌==◌, ◌+◌, ◌∷◌, ◌++◌}
use Rattle.g1_log.specs.Prelude.{Option, Some, None, ℕ, List, [], length, sum_by, All, Held, view}
use Rattle.g1_log.specs.Prelude.{ruled_capacity}
use Rattle.atomic_table.specs.Seated.{TableId}
use Rattle.g1_log.specs.declared.line.Line.{Line}
use Rattle.g1_log.specs.declared.ends.Sender.{Sender}
use Rattle.g1_log.specs.declared.ends.Taker.{Taker}
use Rattle.g1_log.specs.declared.ends.Settled.{Settled}
use Rattle.g1_log.specs.declared.buffer.Buffer.{Buffer}
use Rattle.g1_log.specs.declared.parcel.Parcel.{Parcel}
use Rattle.g1_log.specs.declared.view.PassView.{PassView}
use Rattle.g1_log.specs.Line.{one_if, put_by, taken_by, put_weight, taken_weight, Rises, whole}
use Rattle.g1_log.specs.Line.{SeenBy}

-- which line it is
abbrev pub line_home : Line → TableId
line_home line = line.queue.table.shared.table_id

-- how many parcels it holds at most
abbrev pub capacity_of : Line → ℕ
capacity_of line = ruled_capacity line.queue

-- the line that an end belongs to
abbrev pub sender_home : Sender → TableId
sender_home s = s.pass.table_id

abbrev pub taker_home : Taker → TableId
taker_home t = t.pass.table_id

-- a sender and a taker that were made with this line
abbrev pub IsSenderOf : Line → Sender → Type 0
IsSenderOf line s = sender_home s ≡ line_home line

abbrev pub IsTakerOf : Line → Taker → Type 0
IsTakerOf line t = taker_home t ≡ line_home line

-- what a sender and a taker know of the line
abbrev pub sender_view : Sender → PassView
sender_view s = view s.pass

abbrev pub taker_view : Taker → PassView
taker_view t = view t.pass

-- the number of a sender, from 0
abbrev pub number_of : Sender → ℕ
number_of s = s.number

-- the list of the buffers that a sender has put
abbrev pub put_of : Sender → List Buffer
put_of s = put_by (sender_view s)

-- the list of the parcels that a taker has taken
abbrev pub taken_of : Taker → List Parcel
taken_of t = taken_by (taker_view t)

-- the shares that a sender and a taker have of the line
abbrev pub sender_rights : Sender → ℕ
sender_rights s = (sender_view s).rights

abbrev pub taker_rights : Taker → ℕ
taker_rights t = (taker_view t).rights

-- the same end, but for what it has put or taken
pub record IsSameSender (s t : Sender) : Type 0 where
  pub home : sender_home s ≡ sender_home t
  pub number : number_of s ≡ number_of t
  pub rights : sender_rights s ≡ sender_rights t

pub record IsSameTaker (s t : Taker) : Type 0 where
  pub home : taker_home s ≡ taker_home t
  pub rights : taker_rights s ≡ taker_rights t

-- there was a state by the rule of the line, with this view in it, in which the queue held n
-- parcels
abbrev pub WasOfLength : ℕ → PassView → Type 0
WasOfLength n v = Held n (SeenBy v)

-- the queue was full, or empty, in a state with what this sender has put, or this taker taken
abbrev pub WasFull : Line → Sender → Type 0
WasFull line s = WasOfLength (capacity_of line) (sender_view s)

abbrev pub WasEmpty : Taker → Type 0
WasEmpty t = WasOfLength 0 (taker_view t)

-- sender number k of the line, which has put nothing
pub record IsNewSender (line : Line) (k : ℕ) (s : Sender) : Type 0 where
  pub of : IsSenderOf line s
  pub number : number_of s ≡ k
  pub put : put_of s ≡ []
  pub right : sender_rights s ≡ 1

-- senders of the line that have put nothing, numbered from k on
abbrev pub AreNewSenders : Line → ℕ → List Sender → Type 0
AreNewSenders line k [] = Unit {0}
AreNewSenders line k (s ∷ ss) = IsNewSender line k s × AreNewSenders line (k + 1) ss

-- a taker of the line that has taken nothing
pub record IsNewTaker (line : Line) (t : Taker) : Type 0 where
  pub of : IsTakerOf line t
  pub taken : taken_of t ≡ []

-- these are all senders and takers of their line: they have all its rights
abbrev pub AreAll : List Sender → List Taker → Type 0
AreAll senders takers = sum_by sender_rights senders + sum_by taker_rights takers ≡ whole

-- how many buffers these senders have put, and how many parcels these takers have taken
abbrev pub put_count : List Sender → ℕ
put_count senders = sum_by (λ s. length (put_of s)) senders

abbrev pub taken_count : List Taker → ℕ
taken_count takers = sum_by (λ t. length (taken_of t)) takers

-- what these senders have put is what these takers have taken and what is left, each parcel once:
-- so it is however parcels are weighed
abbrev pub EachTakenOrLeft : List Sender → List Taker → List Parcel → Type 0
EachTakenOrLeft senders takers left =
    (h : Parcel → ℕ) → sum_by (λ s. put_weight h (sender_view s)) senders
    ≡ sum_by (λ t. taken_weight h (taker_view t)) takers + sum_by h left

-- no two of these senders have one number
abbrev pub AreNumberedApart : List Sender → Type 0
AreNumberedApart senders = (i : ℕ) → sum_by (λ s. one_if (number_of s == i)) senders ≤ 1

-- the numbers of each sender rise in what is left, and each taker's list goes on to rise in it
abbrev pub RiseInto : List Taker → List Parcel → Type 0
RiseInto takers left = Rises left × All (λ t. Rises (taken_of t ++ left)) takers

-- a parcel and those behind it, where there is one
abbrev pub ahead_and : Option Parcel → List Parcel → List Parcel
ahead_and None l = []
ahead_and (Some x) l = x ∷ l

-- the parcels that are left in a line that has ended, oldest first
abbrev pub left_of : Settled → List Parcel
left_of s = ahead_and s.ahead (view s.pass).rest

-- how many buffers were put into it, and how many parcels were left in it
abbrev pub sent_of : Settled → ℕ
sent_of s = s.sent

abbrev pub left_count : Settled → ℕ
left_count s = s.left
