-- The kinds of step that parties make on the words of a race: each is made on one word by one seat.
use Rattle.std.specs.Prelude.{◌≡◌, ◌<◌, ◌^◌, ◌==◌, if◌then◌else◌, ◌∷◌, ◌++◌, ◌⊎◌}
use Rattle.g1_race_words.specs.Prelude.{ℕ, bit_or, List, [], map, slice_set, Some, None, some}
use Rattle.g1_race_words.specs.Prelude.{get_elem?}
use Rattle.g1_race_words.specs.declared.view.RaceShape.{RaceShape}
use Rattle.g1_race_words.specs.declared.view.View.{View}
use Rattle.g1_race_words.specs.Rule.{StoreHistory, IsWord, bit_index, bit_word, flag, front}
use Rattle.g1_race_words.specs.Rule.{mark_word, beginning, start_of, Raced}
use Rattle.g1_race_words.specs.Steps.{wrote, exchanged, looked, spotted, raised, dirtied, cleaned}
use Rattle.g1_race_words.specs.Steps.{read, sought, recorded}

-- a step, with the word that it finds
pub data WordStep : Type 0 where
  -- a racer writes a word to a slot, or does so if it finds the word that it expects
  Write : (slot word found : ℕ) → WordStep
  Exchange : (slot expected word found : ℕ) → WordStep
  -- a racer loads the mark of the card that it owes, and swaps it to dirty
  Look : (card found : ℕ) → WordStep
  Dirty : (card found : ℕ) → WordStep
  -- a racer loads the word with that card's flag, and sets the flag
  Spot : (card found : ℕ) → WordStep
  Raise : (card found : ℕ) → WordStep
  -- a sweeper swaps a card's mark to clean, and loads the card's slots
  Clean : (card found : ℕ) → WordStep
  Read : (slot found : ℕ) → WordStep
  -- a sweeper loads the word with the bit of the pair that it holds, and sets the bit
  Seek : (pair : ℕ × ℕ) (found : ℕ) → WordStep
  Record : (pair : ℕ × ℕ) (found : ℕ) → WordStep

-- the word that it is made on
abbrev pub place_of : RaceShape → WordStep → ℕ
place_of heap (Write slot word found) = slot
place_of heap (Exchange slot expected word found) = slot
place_of heap (Look card found) = mark_word heap card
place_of heap (Dirty card found) = mark_word heap card
place_of heap (Spot card found) = bit_word heap (flag heap card)
place_of heap (Raise card found) = bit_word heap (flag heap card)
place_of heap (Clean card found) = mark_word heap card
place_of heap (Read slot found) = slot
place_of heap (Seek pair found) = bit_word heap pair
place_of heap (Record pair found) = bit_word heap pair

abbrev pub found_by : WordStep → ℕ
found_by (Write slot word found) = found
found_by (Exchange slot expected word found) = found
found_by (Look card found) = found
found_by (Dirty card found) = found
found_by (Spot card found) = found
found_by (Raise card found) = found
found_by (Clean card found) = found
found_by (Read slot found) = found
found_by (Seek pair found) = found
found_by (Record pair found) = found

-- the word that it leaves there
abbrev pub left_by : RaceShape → WordStep → ℕ
left_by heap (Write slot word found) = word
left_by heap (Exchange slot expected word found) = if found == expected then word else found
left_by heap (Look card found) = found
left_by heap (Dirty card found) = 1
left_by heap (Spot card found) = found
left_by heap (Raise card found) = bit_or found (2 ^ bit_index heap (flag heap card))
left_by heap (Clean card found) = 0
left_by heap (Read slot found) = found
left_by heap (Seek pair found) = found
left_by heap (Record pair found) = bit_or found (2 ^ bit_index heap pair)

-- what the seat knows after it
abbrev pub after : WordStep → View → View
after (Write slot word found) view = wrote view slot word found
after (Exchange slot expected word found) view = exchanged view slot expected word found
after (Look card found) view = looked view found
after (Dirty card found) view = dirtied view card found
after (Spot card found) view = spotted view found
after (Raise card found) view = raised view
after (Clean card found) view = cleaned view card found
after (Read slot found) view = read view slot found
after (Seek pair found) view = sought view found
after (Record pair found) view = recorded view

-- a racer that owes nothing stores the word
abbrev pub MayStore : RaceShape → View → ℕ → ℕ → Type 0
MayStore heap view slot word = ((h : StoreHistory) × (view.histories ≡ h ∷ []))
    × (view.owed ≡ None) × (slot < heap.slots) × IsWord heap word

abbrev pub Owes : RaceShape → View → ℕ → Type 0
Owes heap view card = (view.owed ≡ Some card) × (card < heap.cards)

-- the seat may make it
abbrev pub May : RaceShape → WordStep → View → Type 0
May heap (Write slot word found) view = MayStore heap view slot word
May heap (Exchange slot expected word found) view = MayStore heap view slot word
May heap (Look card found) view = Owes heap view card
May heap (Dirty card found) view = Owes heap view card
May heap (Spot card found) view = Owes heap view card
May heap (Raise card found) view = Owes heap view card
May heap (Clean card found) view = (view.next ≡ view.end) × (card < heap.cards)
May heap (Read slot found) view =
    (view.next ≡ slot) × (slot < view.end) × (slot < heap.slots)
May heap (Seek pair found) view = view.held ≡ pair ∷ []
May heap (Record pair found) view = view.held ≡ pair ∷ []

-- the words of a race, and what its seats know
pub record TableState : Type 0 where
  pub words : List ℕ
  pub views : List View

-- the seat makes the step
pub record Makes (heap : RaceShape) (seat : ℕ) (step : WordStep) (before next : TableState)
    : Type 0 where
  pub view : View
  pub mine : get_elem? before.views seat ≡ some view
  pub may : May heap step view
  pub found : get_elem? before.words (place_of heap step) ≡ some (found_by step)
  pub words : next.words ≡ slice_set before.words (place_of heap step) (left_by heap step)
  pub views : next.views ≡ slice_set before.views seat (after step view)

-- at some moment of the race, a seat that knows this makes the step
pub record HasMade (view : View) (step : WordStep) : Type 0 where
  pub seat : ℕ
  pub before : TableState
  pub next : TableState
  pub raced : Raced (beginning (start_of view)) before.words before.views
  pub mine : get_elem? before.views seat ≡ some view
  pub makes : Makes view.shape seat step before next
  pub goes_on : Raced (beginning (start_of view)) next.words next.views

-- What the five kinds speak of: the words of slots and marks, and all that each seat knows but the
-- pair that it holds until the table has it, and that a flag is set.
abbrev pub seen_view : View → View
seen_view view = record view { held = []; flagged = [] }

abbrev pub seen : RaceShape → TableState → TableState
seen heap status =
    record { words = front heap status.words; views = map seen_view status.views }

-- steps of seats, each with the seat's index, made one after the other
abbrev pub Run : RaceShape → TableState → List (ℕ × WordStep) → TableState → Type 0
Run heap before [] last = before ≡ last
Run heap before (move ∷ moves) last =
    (next : TableState) × Makes heap move.0 move.1 before next × Run heap next moves last

-- what is seen of such a run
abbrev pub SeenRun : RaceShape → TableState → List (ℕ × WordStep) → TableState → Type 0
SeenRun heap before [] last = before ≡ last
SeenRun heap before (move ∷ moves) last =
    (next : TableState) × Makes heap move.0 move.1 before next
    × SeenRun heap (seen heap next) moves last

-- the step as one of the five kinds: write, look, dirty, clean, read. An exchange that stores is a
-- write, and each other step is none
abbrev pub five_of : ℕ → WordStep → List (ℕ × WordStep)
five_of seat (Write slot word found) = (seat, Write slot word found) ∷ []
five_of seat (Exchange slot expected word found) =
    if found == expected then (seat, Write slot word found) ∷ [] else []
five_of seat (Look card found) = (seat, Look card found) ∷ []
five_of seat (Dirty card found) = (seat, Dirty card found) ∷ []
five_of seat (Spot card found) = []
five_of seat (Raise card found) = []
five_of seat (Clean card found) = (seat, Clean card found) ∷ []
five_of seat (Read slot found) = (seat, Read slot found) ∷ []
five_of seat (Seek pair found) = []
five_of seat (Record pair found) = []

abbrev pub fives_of : List (ℕ × WordStep) → List (ℕ × WordStep)
fives_of [] = []
fives_of (move ∷ moves) = five_of move.0 move.1 ++ fives_of moves

-- a run of a race without its other steps is a run of the five kinds, for all that is seen
abbrev pub RunsAreOfFive : Type 0
RunsAreOfFive =
    (heap : RaceShape) (first last : TableState) (moves : List (ℕ × WordStep))
    → Run heap first moves last → SeenRun heap (seen heap first) (fives_of moves) (seen heap last)

-- a step is one of the five kinds, or nothing that is seen changes
abbrev pub StepsAreOfFive : Type 0
StepsAreOfFive =
    (heap : RaceShape) (seat : ℕ) (step : WordStep) (before next : TableState)
    → Makes heap seat step before next
    → ((five : WordStep) × (five_of seat step ≡ (seat, five) ∷ [])
    × Makes heap seat five before next)
    ⊎ ((five_of seat step ≡ []) × (seen heap next ≡ seen heap before))
