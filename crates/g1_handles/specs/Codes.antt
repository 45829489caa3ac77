-- The words that cross to C, and what a call on what a handle holds does.
use Rattle.std.specs.Prelude.{◌≡◌, ◌⊎◌, ◌<◌, ◌==◌, if◌then◌else◌}
use Rattle.g1_handles.specs.Prelude.{ℕ, Option, Some, None, IfSome, IfOk, IfErr, OnErr, IsSomeAnd}
use Rattle.g1_handles.specs.Prelude.{Shape, slot_count, Kind, Null, SameRegion, AlreadyDirty}
use Rattle.g1_handles.specs.Prelude.{Logged, ClearReply, Cleared, Pending, StillReferenced}
use Rattle.g1_handles.specs.Prelude.{Settings, Result, Err}
use Rattle.g1_handles.specs.declared.one_core.open.Counts.{Counts}
use Rattle.g1_handles.specs.declared.code.Reason.{Reason}
use Rattle.g1_handles.specs.declared.code.Reason.TheVariants as refusal

-- the word of a refusal
abbrev pub refusal_word : Reason → ℕ
refusal_word refusal.NotOpen = 8
refusal_word refusal.AlreadyOpen = 9
refusal_word refusal.NoMemory = 10
refusal_word refusal.BadLayout = 11
refusal_word refusal.BadSettings = 12
refusal_word refusal.NoSlot = 13
refusal_word refusal.NoCard = 14
refusal_word refusal.NoRegion = 15
refusal_word refusal.NoRoom = 16
refusal_word refusal.TooManyCards = 17
refusal_word refusal.SameRegion = 18
refusal_word refusal.StillPending = 19
refusal_word refusal.StillReferenced = 20
refusal_word refusal.LogFull = 22
refusal_word refusal.BadHandles = 23
refusal_word refusal.OtherRace = 24
refusal_word refusal.NotPaused = 25
refusal_word refusal.NotRacing = 26
refusal_word refusal.BadWord = 27

-- The word is that of a refusal of which this holds.
abbrev pub IsRefusal : ℕ → (Reason → Type 0) → Type 0
IsRefusal word Q = (r : Reason) × (word ≡ refusal_word r) × Q r

-- the word of a kind of store
abbrev pub kind_word : Kind → ℕ
kind_word Null = 0
kind_word SameRegion = 1
kind_word AlreadyDirty = 2
kind_word Logged = 3

-- The word is that of a kind of store of which this holds.
abbrev pub OfKind : ℕ → (Kind → Type 0) → Type 0
OfKind word Q = (k : Kind) × (word ≡ kind_word k) × Q k

-- the reference that a word stands for: the greatest word is null
abbrev pub reference_of : ℕ → Option ℕ
reference_of word = if word == 4294967295 then None else Some word

-- The words name a slot of the heap, and a place of it or null.
abbrev pub IsStoreOf : Shape → ℕ → ℕ → Type 0
IsStoreOf l slot target =
    (slot < slot_count l) × IfSome (reference_of target) (λ place. place < slot_count l)

-- the reply of a clear that C is told by a word and a number
abbrev pub cleared_of : ℕ → ℕ → ClearReply
cleared_of word number =
    if word == 0 then Cleared else if word == 19 then Pending number else StillReferenced number

-- The words of a clear's reply: no number goes with one that was granted.
abbrev pub IsClearWord : ℕ → ℕ → Type 0
IsClearWord word number = ((word ≡ 0) × (number ≡ 0)) ⊎ (word ≡ 19) ⊎ (word ≡ 20)

-- what holds of what an open handle holds
abbrev pub OfOpen : {V : Type 0} → Option V → (V → Type 0) → Type 0
OfOpen handle Q = IsSomeAnd handle Q

-- what holds from one value to the next, of a handle that is open before and after
abbrev pub Between : {V : Type 0} → Option V → Option V → (V → V → Type 0) → Type 0
Between old new Q = OfOpen old (λ o. OfOpen new (Q o))

-- a call, which leads from one value to another with this result, was made on what a handle holds,
-- or was refused since the handle is closed
abbrev pub IsVisit : {V A : Type 0} → (V → Result A Reason → V → Type 0)
    → Option V → Result A Reason → Option V → Type 0
IsVisit Q None r new = (new ≡ None) × (r ≡ Err refusal.NotOpen)
IsVisit Q (Some old) r new = OfOpen new (Q old r)

-- A call that led from one value to another did this, by its answer; or it was refused for this
-- reason, and then changed nothing.
abbrev pub IsMade : {V A : Type 0} → V → Result A Reason → V → (A → Type 0) → (Reason → Type 0)
    → Type 0
IsMade old r new Does Why = IfOk r Does × IfErr r Why × OnErr r (new ≡ old)

-- A question, which changes nothing, has this answer, or is refused for this reason.
abbrev pub IsAnswered : {V A : Type 0} → V → Result A Reason → V → (A → Type 0)
    → (Reason → Type 0) → Type 0
IsAnswered old r new Is Why = IfOk r Is × IfErr r Why × (new ≡ old)

-- the layout that these counts ask for
abbrev pub layout_of : Counts → Shape
layout_of c = record { regions = c.regions; cards = c.cards; slots = c.slots }

-- the settings that C gives: the hot limit and the ring's size, and the defaults of the others
abbrev pub settings_of : ℕ → ℕ → Settings
settings_of hot ring = record { log = 256; limit = 10; hot = hot; ring = ring; start = 5 }
