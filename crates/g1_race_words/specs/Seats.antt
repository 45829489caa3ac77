-- What a seat at the words of a race must be for a step, and what the step at a pause tells it.
use Rattle.std.specs.Prelude.{◌≡◌, ◌<◌, ◌∷◌}
use Rattle.g1_race_words.specs.Prelude.{ℕ, List, [], Some, true, false, Ptr, some, get_elem?, Me}
use Rattle.g1_race_words.specs.Prelude.{TableId, Seat}
use Rattle.g1_race_words.specs.declared.view.RaceShape.{RaceShape}
use Rattle.g1_race_words.specs.declared.view.View.{View}
use Rattle.g1_race_words.specs.Begin.{Start}
use Rattle.g1_race_words.specs.Rule.{IsBegun, IsPair, Raced, beginning, bit_word, flag, mark_word}
use Rattle.g1_race_words.specs.Rule.{started, start_of}
use Rattle.g1_race_words.specs.Steps.{whole_seat, frozen_seat}

-- the words of a race: which table they are, the shape of its heap, and where the first one lies
pub record Words : Type 0 where
  pub table_id : TableId
  pub shape : RaceShape
  pub address : Ptr

-- a party's seat while mutators run: it is of this race, and has one party's weight
pub record Sits (heap : RaceShape) (view : View) : Type 0 where
  pub shape : view.shape ≡ heap
  pub weight : view.weight ≡ 1
  pub going : view.frozen ≡ false

-- the word is the mark of the card that the seat owes
abbrev pub OwesMark : RaceShape → View → ℕ → Type 0
OwesMark heap view word =
    (card : ℕ) × (view.owed ≡ Some card) × (card < heap.cards) × (word ≡ mark_word heap card)

-- the word has the flag of the card that the seat owes
abbrev pub OwesFlag : RaceShape → View → ℕ → ℕ → Type 0
OwesFlag heap view card word =
    (view.owed ≡ Some card) × (card < heap.cards) × (word ≡ bit_word heap (flag heap card))

-- the word is the mark of some card
abbrev pub IsMark : RaceShape → ℕ → Type 0
IsMark heap word = (card : ℕ) × (card < heap.cards) × (word ≡ mark_word heap card)

-- the seat holds the pair, whose bit is in the word
abbrev pub HoldsBit : RaceShape → View → ℕ × ℕ → ℕ → Type 0
HoldsBit heap view pair word =
    (view.held ≡ pair ∷ []) × IsPair heap pair × (word ≡ bit_word heap pair)

-- the seat of a pause that ends, with the share of a party still to give
abbrev pub IsWholeSeat : View → Type 0
IsWholeSeat view = (begin : Start) × (weight : ℕ) × (view ≡ whole_seat begin weight) × (0 < weight)

-- a seat of a race at a pause: it knows the words
pub record IsAtPause (table_id : TableId) (heap : RaceShape) (seat : Seat (Unit {0}) View)
    : Type 0 where
  pub table : seat.table_id ≡ table_id
  pub view : seat.me ≡ (frozen_seat (started heap seat.me.0.began_words) seat.me.0.weight, [])
  pub begun : IsBegun (started heap seat.me.0.began_words)

-- the one that has all the weight, and may write
pub record IsPaused (table_id : TableId) (heap : RaceShape) (seat : Seat (Unit {0}) View)
    : Type 0 where
  pub here : IsAtPause table_id heap seat
  pub all : seat.me.0.weight ≡ heap.parties

-- at some moment of the race, with the seat's view so, the slot had the word
pub record IsFound (view : View) (slot word : ℕ) : Type 0 where
  pub words : List ℕ
  pub views : List View
  pub id : ℕ
  pub raced : Raced (beginning (start_of view)) words views
  pub mine : get_elem? views id ≡ some view
  pub there : get_elem? words slot ≡ some word

-- a seat with all the weight learns the words, and what they are to the beginning of the race;
-- where it was frozen, they are those that it knew
pub record Freezes (before after : Me (Unit {0}) View) : Type 0 where
  pub words : List ℕ
  pub views : List View
  pub id : ℕ
  pub view : after ≡ (frozen_seat (started before.0.shape words) before.0.weight, before.1)
  pub begun : IsBegun (started before.0.shape words)
  pub raced : Raced (beginning (start_of before.0)) words views
  pub mine : get_elem? views id ≡ some before.0
  pub still : before.0.frozen ≡ true → words ≡ before.0.began_words
