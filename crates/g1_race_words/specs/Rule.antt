-- References between regions, cards, and who answers for a slot while stores and sweeps run beside
-- each other. Word p, below the number of slots, is 0, or one more than the slot that slot p refers
-- to, or data from 2^32 on, which refers to nothing. The word of card c's mark comes c places after
-- the slots' words. Behind the marks' words come those with a bit for each pair of a card and a
-- region, which is 1 once the pair is recorded: a row of words for each region, 64 cards to a word.
-- One more row has a flag for each eight cards, which is 1 wherever a mark of theirs is.
use Rattle.std.specs.Prelude.{◌≡◌, ◌≢◌, ◌⊎◌, ◌+◌, ◌-◌, ◌*◌, ◌/◌, ◌%◌, ◌<◌, ◌≤◌, ◌^◌, ◌∷◌, ◌++◌}
use Rattle.std.specs.Prelude.{◌==◌, if◌then◌else◌}
use Rattle.g1_race_words.specs.Prelude.{nat_lt, ℕ, slice_index, replicate, take, List, [], length}
use Rattle.g1_race_words.specs.Prelude.{zero, suc, Bool, true, false, not, Option, Some, None}
use Rattle.g1_race_words.specs.Prelude.{sum_by, bit_at, some, get_elem?}
use Rattle.g1_race_words.specs.declared.view.RaceShape.{RaceShape}
use Rattle.g1_race_words.specs.declared.view.View.{View}
use Rattle.g1_race_words.specs.Begin.{Start, Begun}

abbrev pub slot_card : RaceShape → ℕ → ℕ
slot_card heap slot = slot / heap.size

abbrev pub mark_word : RaceShape → ℕ → ℕ
mark_word heap card = heap.slots + card

-- the region of the slot to which a word that is not 0 refers
abbrev pub region_at : RaceShape → ℕ → ℕ
region_at heap word = (word - 1) / heap.span

-- the pair's bit: its word, in the region's row, and its index in the word
abbrev pub bit_word : RaceShape → ℕ × ℕ → ℕ
bit_word heap pair = heap.slots + heap.cards + (pair.1 * heap.row + pair.0 / 64)

abbrev pub bit_index : RaceShape → ℕ × ℕ → ℕ
bit_index heap pair = pair.0 % 64

-- a card and a region of the heap
abbrev pub IsPair : RaceShape → ℕ × ℕ → Type 0
IsPair heap pair = (pair.0 < heap.cards) × (pair.1 < heap.regions)

-- the pair's bit is set
abbrev pub HasBit : RaceShape → List ℕ → ℕ × ℕ → Type 0
HasBit heap words pair = bit_at (slice_index words (bit_word heap pair)) (bit_index heap pair) ≡ 1

-- a word that refers to a slot: neither null nor data
abbrev pub IsReference : ℕ → Type 0
IsReference word = (word ≢ 0) × (word < 2 ^ 32)

-- null, one more than a slot, or data, which refers to nothing
abbrev pub IsWord : RaceShape → ℕ → Type 0
IsWord heap word = (word ≤ heap.slots) ⊎ (2 ^ 32 ≤ word)

-- the slot's word refers into another region
abbrev pub crosses : RaceShape → ℕ → ℕ → Bool
crosses heap slot word =
    if word == 0 then false
    else if nat_lt word (2 ^ 32) then not (slot / heap.span == region_at heap word)
    else false

-- a slot and its word, which refers into another region
abbrev pub IsCrossing : RaceShape → ℕ → ℕ → Type 0
IsCrossing heap slot word =
    (slot < heap.slots) × (word ≤ heap.slots) × (crosses heap slot word ≡ true)

abbrev pub In : {A : Type 0} → List A → A → Type 0
In [] value = ⊥
In (first ∷ rest) value = (first ≡ value) ⊎ In rest value

-- some seat has the value in this part of its view
abbrev pub Held : {A : Type 0} → (View → List A) → List View → A → Type 0
Held part views value =
    (seat : ℕ) × (v : View) × (get_elem? views seat ≡ some v) × In (part v) value

-- each slot's word is null, one more than a slot, or data
abbrev pub Bounded : RaceShape → List ℕ → Type 0
Bounded heap words = (p n : ℕ) → p < heap.slots → get_elem? words p ≡ some n → IsWord heap n

-- a racer's number, and its stores, the newest first
abbrev pub StoreHistory : Type 0
StoreHistory = ℕ × List (ℕ × ℕ)

abbrev pub histories_of : View → List StoreHistory
histories_of view = view.histories

abbrev pub claims_of : View → List ℕ
claims_of view = view.claims

abbrev pub cleanings_of : View → List ℕ
cleanings_of view = view.cleanings

abbrev pub pairs_found : View → List (ℕ × ℕ)
pairs_found view = view.pairs

abbrev pub held_of : View → List (ℕ × ℕ)
held_of view = view.held

abbrev pub flagged_of : View → List ℕ
flagged_of view = view.flagged

-- the word stored last to the slot
abbrev pub last_to : ℕ → List (ℕ × ℕ) → Option ℕ
last_to slot [] = None
last_to slot (store ∷ stores) = if store.0 == slot then Some store.1 else last_to slot stores

-- how many words there are: of slots, of marks, of the pairs' bits and of the cards' flags
abbrev pub word_count : RaceShape → ℕ
word_count heap = heap.slots + heap.cards + heap.bits + heap.row

-- a card's flag, which eight cards have together: the first one's bit in the row behind that of the
-- last region
abbrev pub flag : RaceShape → ℕ → ℕ × ℕ
flag heap card = (card / 8 * 8, heap.regions)

abbrev pub IsFlagged : RaceShape → List ℕ → ℕ → Type 0
IsFlagged heap words card = HasBit heap words (flag heap card)

-- each card whose mark is 1 has its flag set
abbrev pub AreFlagged : RaceShape → List ℕ → Type 0
AreFlagged heap words =
    (c : ℕ) → c < heap.cards → get_elem? words (mark_word heap c) ≡ some 1 → IsFlagged heap words c

-- the seat answers for the slot with this word: it owes the card, still has the slot to read, or
-- has read the pair
abbrev pub AnswersFor : RaceShape → View → ℕ → ℕ → Type 0
AnswersFor heap view slot word =
    (view.owed ≡ Some (slot_card heap slot)) ⊎ ((view.next ≤ slot) × (slot < view.end))
    ⊎ In view.pairs (slot_card heap slot, region_at heap word)

abbrev pub IsMarked : RaceShape → List ℕ → ℕ → Type 0
IsMarked heap words slot = get_elem? words (mark_word heap (slot_card heap slot)) ≡ some 1

abbrev pub Someone : RaceShape → List View → ℕ → ℕ → Type 0
Someone heap views slot word =
    (seat : ℕ) × (v : View) × (get_elem? views seat ≡ some v) × AnswersFor heap v slot word

-- each slot that refers into another region has its pair among those known from the beginning, its
-- card marked, or some seat answers for it
abbrev pub Covered : RaceShape → List (ℕ × ℕ) → List ℕ → List View → Type 0
Covered heap known words views =
    (p n : ℕ) → p < heap.slots → get_elem? words p ≡ some n → crosses heap p n ≡ true
    → In known (slot_card heap p, region_at heap n) ⊎ IsMarked heap words p ⊎ Someone heap views p n

-- at rest: nothing is owed, nothing is to be read, and neither a pair is held nor a flag
abbrev pub AtRest : View → Type 0
AtRest view = (view.owed ≡ None) × (view.next ≡ view.end) × (view.held ≡ []) × (view.flagged ≡ [])

abbrev pub IsBlank : View → Type 0
IsBlank view =
    AtRest view × (view.histories ≡ []) × (view.claims ≡ []) × (view.cleanings ≡ [])
    × (view.pairs ≡ []) × (view.overwritten ≡ [])

-- the sum over the views
abbrev pub total : (View → ℕ) → List View → ℕ
total part [] = 0
total part (view ∷ views) = part view + total part views

abbrev pub weigh : List View → ℕ
weigh views = total (λ v. v.weight) views

-- the views have as much weight as there are parties, and one with none answers for nothing
abbrev pub Weighed : RaceShape → List View → Type 0
Weighed heap views =
    (weigh views ≡ heap.parties) × ((seat : ℕ) (v : View) → get_elem? views seat ≡ some v
    → v.weight ≡ 0 → IsBlank v)

abbrev pub as_number : Bool → ℕ
as_number true = 1
as_number false = 0

-- how many of the histories have the number
abbrev pub tally : ℕ → List StoreHistory → ℕ
tally number [] = 0
tally number (history ∷ histories) = as_number (number == history.0) + tally number histories

abbrev pub history_count : ℕ → View → ℕ
history_count number view = tally number view.histories

-- how often the view has the number: it still has it to give, or a history has it
abbrev pub numbers : ℕ → View → ℕ
numbers number view = as_number (nat_lt number view.spare) + history_count number view

-- each number below that of the parties stands once at most: in one history of one view, or with
-- one that can still give it; and no other number stands anywhere
abbrev pub Numbered : RaceShape → List View → Type 0
Numbered heap views = (m : ℕ) → total (numbers m) views ≤ as_number (nat_lt m heap.parties)

-- each slot has the word that some racer stored to it last, or the one that it began with, and no
-- racer has stored to it
abbrev pub SlotsStored : RaceShape → List ℕ → List ℕ → List View → Type 0
SlotsStored heap began words views = (p n : ℕ) → p < heap.slots → get_elem? words p ≡ some n →
    ((h : StoreHistory) × Held histories_of views h × (last_to p h.1 ≡ Some n))
    ⊎ ((get_elem? began p ≡ some n)
    × ((h : StoreHistory) → Held histories_of views h → last_to p h.1 ≡ None))

-- what f gives of each word that stands in the list with the slot, added up
abbrev pub sum_at : (ℕ → ℕ) → ℕ → List (ℕ × ℕ) → ℕ
sum_at f slot words = sum_by (λ s. if s.0 == slot then f s.1 else 0) words

-- of the words that a view has stored to the slot, and of those that it has overwritten there
abbrev pub stored_sum : (ℕ → ℕ) → ℕ → View → ℕ
stored_sum f slot view = sum_by (λ h. sum_at f slot h.1) view.histories

abbrev pub overwritten_sum : (ℕ → ℕ) → ℕ → View → ℕ
overwritten_sum f slot view = sum_at f slot view.overwritten

-- The words stored to a slot and the one that it began with are those overwritten there and the one
-- that it has now: whatever is added up of them gives the same. With an f that is 1 of one word and
-- 0 of any other, that word was written, or there at first, once for each time that it was
-- overwritten or is there now. With the words themselves, their sums are equal.
abbrev pub Balanced : RaceShape → List ℕ → List ℕ → List View → Type 0
Balanced heap began words views = (f : ℕ → ℕ) (p first now : ℕ) → p < heap.slots
    → get_elem? began p ≡ some first → get_elem? words p ≡ some now
    → total (stored_sum f p) views + f first ≡ total (overwritten_sum f p) views + f now

-- some racer stored a reference into the pair's region to its card, which lies outside
abbrev pub StoredInto : RaceShape → List View → ℕ × ℕ → Type 0
StoredInto heap views pair =
    (h : StoreHistory) × (p : ℕ) × (n : ℕ) × Held histories_of views h × In h.1 (p, n)
    × IsCrossing heap p n × ((slot_card heap p, region_at heap n) ≡ pair)

-- at the beginning some slot of the pair's card referred into its region, outside of which it lies
abbrev pub BeganInto : RaceShape → List ℕ → ℕ × ℕ → Type 0
BeganInto heap began pair =
    (p : ℕ) × (n : ℕ) × (get_elem? began p ≡ some n) × IsCrossing heap p n
    × ((slot_card heap p, region_at heap n) ≡ pair)

-- each pair that a seat has is of a reference that some racer stored, or that was there at the
-- beginning
abbrev pub Recorded : RaceShape → List ℕ → List View → Type 0
Recorded heap began views =
    (x : ℕ × ℕ) → Held pairs_found views x → StoredInto heap views x ⊎ BeganInto heap began x

-- the race began with the pair, or some seat has read it
abbrev pub IsNoted : List (ℕ × ℕ) → List View → ℕ × ℕ → Type 0
IsNoted known views pair = In known pair ⊎ Held pairs_found views pair

-- each pair that the race began with or that some seat has read has its bit set, or a seat holds
-- it, which is about to set the bit; no other bit is set, and no seat holds a pair that none has
-- read
pub record PairsKept (heap : RaceShape) (known : List (ℕ × ℕ)) (words : List ℕ)
    (views : List View) : Type 0 where
  pub has : (x : ℕ × ℕ) → IsNoted known views x → HasBit heap words x ⊎ Held held_of views x
  pub only : (x : ℕ × ℕ) → IsPair heap x → HasBit heap words x → IsNoted known views x
  pub read : (x : ℕ × ℕ) → Held held_of views x → Held pairs_found views x

-- each marked card has its flag set, and each card of which some seat knows it
pub record Flagged (heap : RaceShape) (words : List ℕ) (views : List View) : Type 0 where
  pub marked : AreFlagged heap words
  pub known : (c : ℕ) → Held flagged_of views c → IsFlagged heap words c

-- the seat has a store to the card of a reference that crosses regions
abbrev pub StoresTo : RaceShape → ℕ → View → Type 0
StoresTo heap card view =
    (h : StoreHistory) × (p : ℕ) × (n : ℕ) × In view.histories h × In h.1 (p, n)
    × IsCrossing heap p n × (slot_card heap p ≡ card)

-- some seat has one
abbrev pub IsStoredTo : RaceShape → List View → ℕ → Type 0
IsStoredTo heap views card =
    (seat : ℕ) × (v : View) × (get_elem? views seat ≡ some v) × StoresTo heap card v

-- beside the flags that were set at the beginning no flag is set but those of cards to which some
-- racer has stored a reference that crosses regions. Only such cards are owed
pub record FlagsKept (heap : RaceShape) (first words : List ℕ) (views : List View)
    : Type 0 where
  pub only : (x : ℕ) → x < heap.cards → HasBit heap words (x, heap.regions)
      → HasBit heap first (x, heap.regions)
      ⊎ ((c : ℕ) × (c / 8 * 8 ≡ x) × IsStoredTo heap views c)
  pub owed : (c seat : ℕ) (v : View) → get_elem? views seat ≡ some v → v.owed ≡ Some c
      → IsStoredTo heap views c

-- the card was marked at the beginning
abbrev pub BeganMarked : RaceShape → List ℕ → ℕ → Type 0
BeganMarked heap began card = get_elem? began (mark_word heap card) ≡ some 1

-- some racer claimed the card, or it was marked at the beginning
abbrev pub MadeDirty : RaceShape → List ℕ → List View → ℕ → Type 0
MadeDirty heap began views card = Held claims_of views card ⊎ BeganMarked heap began card

-- a marked card is claimed by some racer, or began marked. Of a card that isn't marked neither is
-- so, or a sweeper cleaned it
abbrev pub Claimed : RaceShape → List ℕ → List ℕ → List View → Type 0
Claimed heap began words views = (c : ℕ) → c < heap.cards →
    ((get_elem? words (mark_word heap c) ≡ some 1) × MadeDirty heap began views c)
    ⊎ ((get_elem? words (mark_word heap c) ≡ some 0)
    × (Held cleanings_of views c ⊎ (MadeDirty heap began views c → ⊥)))

-- how often the list has the card
abbrev pub times : ℕ → List ℕ → ℕ
times card [] = 0
times card (first ∷ rest) = as_number (card == first) + times card rest

abbrev pub claims_at : ℕ → View → ℕ
claims_at card view = times card view.claims

abbrev pub cleanings_at : ℕ → View → ℕ
cleanings_at card view = times card view.cleanings

-- the claims of a card and its mark at the beginning count up to its cleanings and its mark: each
-- mark is 0 or 1, so a card that began clean is dirty where it was claimed once more than cleaned
abbrev pub MarksCounted : RaceShape → List ℕ → List ℕ → List View → Type 0
MarksCounted heap began words views = (c first now : ℕ) → c < heap.cards
    → get_elem? began (mark_word heap c) ≡ some first
    → get_elem? words (mark_word heap c) ≡ some now
    → total (claims_at c) views + first ≡ total (cleanings_at c) views + now

pub record Raced (begun : Begun) (words : List ℕ) (views : List View) : Type 0 where
  pub sized : length words ≡ word_count begun.shape
  pub bounded : Bounded begun.shape words
  pub covered : Covered begun.shape begun.pairs words views
  pub weighed : Weighed begun.shape views
  pub numbered : Numbered begun.shape views
  pub stored : SlotsStored begun.shape begun.words words views
  pub balanced : Balanced begun.shape begun.words words views
  pub recorded : Recorded begun.shape begun.words views
  pub kept : PairsKept begun.shape begun.pairs words views
  pub claimed : Claimed begun.shape begun.words words views
  pub counted : MarksCounted begun.shape begun.words words views
  pub flagged : Flagged begun.shape words views

-- the pair is that of some reference that crosses regions
abbrev pub IsOfCrossing : RaceShape → ℕ × ℕ → Type 0
IsOfCrossing heap pair =
    (p : ℕ) × (n : ℕ) × IsCrossing heap p n × ((slot_card heap p, region_at heap n) ≡ pair)

-- the shape of a heap: whole cards, whole regions, a row of bits for each region with one for each
-- card, and as many words as can be counted
abbrev pub IsWholeShape : RaceShape → Type 0
IsWholeShape heap =
    (heap.slots ≡ heap.cards * heap.size) × (0 < heap.size) × (0 < heap.span)
    × (heap.slots < 2 ^ 32) × (heap.parties < 2 ^ 32) × (0 < heap.cards)
    × (heap.slots ≡ heap.regions * heap.span) × (heap.cards ≤ heap.row * 64)
    × (heap.bits ≡ heap.regions * heap.row) × (heap.bits < 2 ^ 32)

-- what a race can start with: words, with each slot that refers into another region covered by its
-- card's mark or its pair's bit, no bit but those of such pairs, and the flags of marked cards set
pub record IsBegun (begin : Start) : Type 0 where
  pub shaped : IsWholeShape begin.shape
  pub sized : length begin.words ≡ word_count begin.shape
  pub bounded : Bounded begin.shape begin.words
  pub marks : (c : ℕ) → c < begin.shape.cards
      → (get_elem? begin.words (mark_word begin.shape c) ≡ some 1)
      ⊎ (get_elem? begin.words (mark_word begin.shape c) ≡ some 0)
  pub covered : (p n : ℕ) → p < begin.shape.slots → get_elem? begin.words p ≡ some n
      → crosses begin.shape p n ≡ true
      → HasBit begin.shape begin.words (slot_card begin.shape p, region_at begin.shape n)
      ⊎ IsMarked begin.shape begin.words p
  pub proper : (x : ℕ × ℕ) → IsPair begin.shape x → HasBit begin.shape begin.words x
      → IsOfCrossing begin.shape x
  pub flagged : AreFlagged begin.shape begin.words

-- the words of the slots and of the marks among those of a table
abbrev pub front : RaceShape → List ℕ → List ℕ
front heap words = take (heap.slots + heap.cards) words

-- the pairs of a card with the first regions, as many as this, whose bit is set; and those of the
-- first cards, as many as this
abbrev pub pairs_of_card : RaceShape → List ℕ → ℕ → ℕ → List (ℕ × ℕ)
pairs_of_card heap words card zero = []
pairs_of_card heap words card (suc region) =
    pairs_of_card heap words card region
    ++ (if bit_at (slice_index words (bit_word heap (card, region)))
    (bit_index heap (card, region)) == 1 then (card, region) ∷ [] else [])

abbrev pub pairs_up_to : RaceShape → List ℕ → ℕ → List (ℕ × ℕ)
pairs_up_to heap words zero = []
pairs_up_to heap words (suc card) =
    pairs_up_to heap words card ++ pairs_of_card heap words card heap.regions

abbrev pub started : RaceShape → List ℕ → Start
started heap words = record { shape = heap; words = words }

-- what a race that starts so begins with
abbrev pub beginning : Start → Begun
beginning begin =
    record {
      shape = begin.shape;
      words = front begin.shape begin.words;
      pairs = pairs_up_to begin.shape begin.words begin.shape.cards;
    }

-- all null, all clean, and no pair recorded
abbrev pub null_of : RaceShape → Start
null_of heap = started heap (replicate (word_count heap) 0)

-- what a view says of the last pause
abbrev pub start_of : View → Start
start_of view = started view.shape view.began_words

-- the rule: a race since some pause, on which the seats that have weight agree; and where they are
-- frozen, no word has changed since
pub record Going (heap : RaceShape) (words : List ℕ) (views : List View) : Type 0 where
  pub first : List ℕ
  pub frozen : Bool
  pub raced : Raced (beginning (started heap first)) words views
  pub proper : (x : ℕ × ℕ) → In (pairs_up_to heap first heap.cards) x → IsOfCrossing heap x
  pub agreed : (seat : ℕ) (v : View) → get_elem? views seat ≡ some v → 0 < v.weight
      → (start_of v ≡ started heap first) × (v.frozen ≡ frozen)
  pub spared : (seat : ℕ) (v : View) → get_elem? views seat ≡ some v → v.spare ≤ v.weight
  pub still : frozen ≡ true → words ≡ first
  pub flags : FlagsKept heap first words views
