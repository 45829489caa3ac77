-- Why a call is refused: each refusal that it may answer, with what is so where it comes.
use Rattle.std.specs.Prelude.{◌≡◌, ◌⊎◌, ◌+◌, ◌<◌, ◌≤◌, ◌^◌}
use Rattle.g1_handles.specs.Prelude.{ℕ, List, All, length, Shape, slot_count, card_count, Option}
use Rattle.g1_handles.specs.Prelude.{None, IsSome, array_vec_len, IsShape, Settings, AreSettings}
use Rattle.g1_handles.specs.Prelude.{Machine, race_layout, race_shape, Race, Racer, true, crosses}
use Rattle.g1_handles.specs.Prelude.{word_of, Result, Some}
use Rattle.g1_handles.specs.declared.code.Reason.{Reason}
use Rattle.g1_handles.specs.declared.code.Reason.TheVariants as refusal
use Rattle.g1_handles.specs.Codes.{IsStoreOf, OfOpen, reference_of, IsMade}
use Rattle.g1_race.specs.Exchanging.{HasRoomToStore}
use Rattle.g1_handles.specs.declared.party.Role.{Ghosts}
use Rattle.g1_handles.specs.declared.party.Party.{Party}
use Rattle.g1_handles.specs.Own.{RacerParty, SweeperParty}
use Rattle.g1_handles.specs.Racing.{Racing, role_in, OfRole, racing_in, sweeping_in, OfRacer}

-- no slot has this number
abbrev pub LacksSlot : Shape → ℕ → Reason → Type 0
LacksSlot l slot r = (r ≡ refusal.NoSlot) × (slot_count l ≤ slot)

-- no card has this number
abbrev pub LacksCard : Shape → ℕ → Reason → Type 0
LacksCard l card r = (r ≡ refusal.NoCard) × (card_count l ≤ card)

-- no region has this number
abbrev pub LacksRegion : Shape → ℕ → Reason → Type 0
LacksRegion l region r = (r ≡ refusal.NoRegion) × (l.regions ≤ region)

-- no region has one of these numbers
abbrev pub LacksSomeRegion : Shape → List ℕ → Reason → Type 0
LacksSomeRegion l regions r =
    (r ≡ refusal.NoRegion) × (All (λ region. region < l.regions) regions → ⊥)

-- there are not as many slots from the first one on
abbrev pub LacksSlots : Shape → ℕ → ℕ → Reason → Type 0
LacksSlots l first count r = (r ≡ refusal.NoSlot) × (slot_count l < first + count)

-- one of the two ranges of as many slots from there on leaves the heap
abbrev pub LacksRanges : Shape → ℕ → ℕ → ℕ → ℕ → Reason → Type 0
LacksRanges l first count other others r = LacksSlots l first count r ⊎ LacksSlots l other others r

-- a slot of the heap may have the word: null, a reference or data
abbrev pub IsWordOf : Shape → ℕ → Type 0
IsWordOf l word = (word ≤ slot_count l) ⊎ (2 ^ 32 ≤ word)

-- there are as many slots from the first one on, which may have these words
pub record IsRow (l : Shape) (first : ℕ) (words : List ℕ) : Type 0 where
  pub within : first + length words ≤ slot_count l
  pub fit : All (IsWordOf l) words

-- there are not as many slots, or no slot may have one of the words
abbrev pub LacksRow : Shape → ℕ → List ℕ → Reason → Type 0
LacksRow l first words r = LacksSlots l first (length words) r
    ⊎ ((r ≡ refusal.BadWord) × (All (IsWordOf l) words → ⊥))

-- there is no such slot, or no such place of the target
abbrev pub LacksPlace : Shape → ℕ → ℕ → Reason → Type 0
LacksPlace l slot target r = (r ≡ refusal.NoSlot) × (IsStoreOf l slot target → ⊥)

-- the slot is not there, or the word is no data
abbrev pub SaysNoData : Shape → ℕ → ℕ → Reason → Type 0
SaysNoData l slot word r = LacksSlot l slot r ⊎ ((r ≡ refusal.BadWord) × (word < 2 ^ 32))

-- one of the two regions is not there, or both are the same
abbrev pub SaysNoMove : Shape → ℕ → ℕ → Reason → Type 0
SaysNoMove l from to r =
    LacksRegion l from r ⊎ LacksRegion l to r ⊎ ((r ≡ refusal.SameRegion) × (from ≡ to))

-- the card or the region is not there
abbrev pub LacksPair : Shape → ℕ → ℕ → Reason → Type 0
LacksPair l card region r = LacksCard l card r ⊎ LacksRegion l region r

-- the handle is closed
abbrev pub SaysNotOpen : {V : Type 0} → Option V → Reason → Type 0
SaysNotOpen handle r = (r ≡ refusal.NotOpen) × (handle ≡ None)

-- a call on what a handle holds, which is refused of it for this
abbrev pub IsCallRefused : {V : Type 0} → Option V → (V → Reason → Type 0) → Reason → Type 0
IsCallRefused handle Why r = SaysNotOpen handle r ⊎ OfOpen handle (λ v. Why v r)

-- an array of this length has no room for every card of the heap
abbrev pub SaysNoRoom : Shape → ℕ → Reason → Type 0
SaysNoRoom l room r = (r ≡ refusal.NoRoom) × (room < card_count l)

-- an array of this length has no room for a card of each that was given
abbrev pub SaysFewer : ℕ → ℕ → Reason → Type 0
SaysFewer given room r = (r ≡ refusal.NoRoom) × (room < given)

-- more were given than a log has cards
abbrev pub SaysTooMany : ℕ → Reason → Type 0
SaysTooMany given r = (r ≡ refusal.TooManyCards) × (256 < given)

-- the handle has no racer, sweeper or reader: it is closed, since no party waits in a handle
abbrev pub SaysNoParty : {P : Type 0} {g : Ghosts P} → Option (Party P g) → Reason → Type 0
SaysNoParty m r = (r ≡ refusal.NotOpen) × (role_in m ≡ None)

-- the racer can store the target to the slot: the heap has both, and the log has room if the
-- reference crosses regions
pub record CanStore (race : Race) (racer : Racer) (slot target : ℕ) : Type 0 where
  pub within : IsStoreOf (race_layout race) slot target
  pub room : HasRoomToStore (race_shape race) slot (word_of (reference_of target)) racer

-- the racer's log is full, and the word refers from the slot into another region
abbrev pub SaysFullLog : Race → Racer → ℕ → ℕ → Reason → Type 0
SaysFullLog race racer slot word r = (r ≡ refusal.LogFull)
    × (crosses (race_shape race) slot word ≡ true) × (256 ≤ array_vec_len racer.log)

-- the heap lacks the slot, or the place of the target; or it has both, and the log is full
abbrev pub SaysNoStore : Race → Racer → ℕ → ℕ → Reason → Type 0
SaysNoStore race racer slot target r =
    LacksPlace (race_layout race) slot target r
    ⊎ (IsStoreOf (race_layout race) slot target
    × SaysFullLog race racer slot (word_of (reference_of target)) r)

-- a call by the party of a handle, which is refused of what is seen of it for this
abbrev pub IsRoleRefused : {P : Type 0} {g : Ghosts P} {T : Type 0} → (Party P g → P → T)
    → Option (Party P g) → (T → Reason → Type 0) → Reason → Type 0
IsRoleRefused seen m Why r = SaysNoParty m r ⊎ OfRole seen m (λ a. Why a r)

-- a call by a racer did this, by its answer, or was refused for this and changed nothing
abbrev pub IsMadeByRacer : {A : Type 0} → RacerParty → Result A Reason → RacerParty
    → (Racing → A → Racing → Type 0) → (Racing → Reason → Type 0) → Type 0
IsMadeByRacer old r new Does Why = IsMade old r new
    (λ answer. OfRacer (Some old) (λ a. OfRacer (Some new) (λ b. Does a answer b)))
    (IsRoleRefused racing_in (Some old) Why)

-- the refinement of the card by the sweeper of a handle, which takes no memory
abbrev pub IsSweepRefused : Option SweeperParty → ℕ → Reason → Type 0
IsSweepRefused m card =
    IsRoleRefused sweeping_in m (λ b. LacksCard (race_layout b.race) card)

-- a handle that is to be opened on a heap of these counts with these settings: it is open already,
-- or the heap is not to be had
abbrev pub IsOpenRefused : Option Machine → Shape → Settings → Reason → Type 0
IsOpenRefused handle l s r =
    ((r ≡ refusal.AlreadyOpen) × IsSome handle)
    ⊎ ((handle ≡ None) × (((r ≡ refusal.BadLayout) × (IsShape l → ⊥))
    ⊎ ((r ≡ refusal.BadSettings) × (AreSettings s → ⊥)) ⊎ (r ≡ refusal.NoMemory)))

-- several stores, which take no memory, with an array for their cards
abbrev pub AreStoresRefused : ℕ → ℕ → Reason → Type 0
AreStoresRefused stores room r = SaysFewer stores room r ⊎ SaysTooMany stores r

-- a refinement of these cards, with an array for those that are refined
abbrev pub IsRefinementRefused : Shape → List ℕ → ℕ → Reason → Type 0
IsRefinementRefused l cards room r =
    SaysFewer (length cards) room r ⊎ SaysTooMany (length cards) r
    ⊎ ((r ≡ refusal.NoCard) × (All (λ card. card < card_count l) cards → ⊥))
    ⊎ (r ≡ refusal.NoMemory)

-- a drain of the region, with an array for its cards and one for those that are refined
abbrev pub IsDrainRefused : Shape → ℕ → ℕ → ℕ → Reason → Type 0
IsDrainRefused l region room refined_room r =
    LacksRegion l region r ⊎ SaysNoRoom l room r ⊎ SaysNoRoom l refined_room r
    ⊎ (r ≡ refusal.NoMemory)

-- the question for the parties of the region
abbrev pub AreMembersRefused : Shape → ℕ → Reason → Type 0
AreMembersRefused l region r = LacksRegion l region r ⊎ (r ≡ refusal.NoMemory)

-- a redirect from one region to another, with an array for the cards that are refined
abbrev pub IsRedirectRefused : Shape → ℕ → ℕ → ℕ → Reason → Type 0
IsRedirectRefused l from to room r =
    SaysNoMove l from to r ⊎ SaysNoRoom l room r ⊎ (r ≡ refusal.NoMemory)
