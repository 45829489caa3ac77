-- What a seat's view is after each kind of step, and how views are cut in two and joined.
use Rattle.std.specs.Prelude.{◌+◌, ◌-◌, ◌*◌, ◌∷◌, ◌++◌, ◌==◌, if◌then◌else◌}
use Rattle.g1_race_words.specs.Prelude.{ℕ, slice_set, List, [], true, false, Option, Some, None}
use Rattle.g1_race_words.specs.Prelude.{bit_at}
use Rattle.g1_race_words.specs.declared.view.RaceShape.{RaceShape}
use Rattle.g1_race_words.specs.declared.view.View.{View}
use Rattle.g1_race_words.specs.Begin.{Start}
use Rattle.g1_race_words.specs.Rule.{slot_card, region_at, bit_index, crosses, flag, StoreHistory}
use Rattle.g1_race_words.specs.Rule.{null_of}
use Rattle.g1_race_words.specs.Rule.{start_of}

-- a seat that answers for nothing
abbrev pub blank : Start → ℕ → List StoreHistory → View
blank begin weight histories =
    record {
      shape = begin.shape;
      weight = weight;
      spare = 0;
      began_words = begin.words;
      frozen = false;
      histories = histories;
      overwritten = [];
      owed = None;
      claims = [];
      next = 0;
      end = 0;
      swept = [];
      cleanings = [];
      pairs = [];
      held = [];
      flagged = [];
    }

-- the seat of a pause that ends, which has the weight and the numbers of all that are still to come
abbrev pub whole_seat : Start → ℕ → View
whole_seat begin weight = record (blank begin weight []) { spare = weight }

-- a seat of a pause, which has some of the weight and knows all the words
abbrev pub frozen_seat : Start → ℕ → View
frozen_seat begin weight = record (blank begin weight []) { frozen = true }

-- the words may change again, and the seat has the numbers of all that are to come
abbrev pub thawed : View → View
thawed view = record view { frozen = false; spare = view.weight }

-- one word changes at a pause
abbrev pub changed_at : View → ℕ → ℕ → View
changed_at view slot word = record view { began_words = slice_set view.began_words slot word }

-- the first history gains a store
abbrev pub gains_store : ℕ → ℕ → List StoreHistory → List StoreHistory
gains_store slot word [] = []
gains_store slot word (history ∷ histories) = (history.0, (slot, word) ∷ history.1) ∷ histories

-- a racer writes the word to the slot, and finds this one there
abbrev pub wrote : View → ℕ → ℕ → ℕ → View
wrote view slot word found =
    record view {
      histories = gains_store slot word view.histories;
      overwritten = (slot, found) ∷ view.overwritten;
      owed = if crosses view.shape slot word then Some (slot_card view.shape slot) else None;
    }

-- a racer finds a word at the slot, and writes another one where it is the one that it expects
abbrev pub exchanged : View → ℕ → ℕ → ℕ → ℕ → View
exchanged view slot expected word found =
    if found == expected then wrote view slot word found else view

-- a racer finds this at the mark of the card that it owes
abbrev pub looked : View → ℕ → View
looked view word = record view { owed = if word == 1 then None else view.owed }

-- the card that is owed
abbrev pub owed_card : Option ℕ → List ℕ
owed_card None = []
owed_card (Some card) = card ∷ []

-- those of the cards whose flag is set in the word
abbrev pub set_flags : RaceShape → ℕ → List ℕ → List ℕ
set_flags heap word [] = []
set_flags heap word (card ∷ cards) =
    if bit_at word (bit_index heap (flag heap card)) == 1 then card ∷ set_flags heap word cards
    else set_flags heap word cards

-- a racer finds the word with the flag of the card that it owes
abbrev pub spotted : View → ℕ → View
spotted view word = record view { flagged = set_flags view.shape word (owed_card view.owed) }

-- a racer has set the flag of the card that it owes
abbrev pub raised : View → View
raised view = record view { flagged = owed_card view.owed }

-- a racer swaps 1 to the mark of the card that it owes, and finds the word
abbrev pub dirtied : View → ℕ → ℕ → View
dirtied view card word =
    record view {
      owed = None;
      claims = if word == 0 then card ∷ view.claims else view.claims;
      flagged = [];
    }

-- a sweeper swaps 0 to the mark of the card, finds the word, and has the card's slots to read
abbrev pub cleaned : View → ℕ → ℕ → View
cleaned view card word =
    record view {
      next = card * view.shape.size;
      end = card * view.shape.size + view.shape.size;
      swept = card ∷ view.swept;
      cleanings = if word == 1 then card ∷ view.cleanings else view.cleanings;
    }

-- the pair of a slot's word, where it refers into another region
abbrev pub pair_at : RaceShape → ℕ → ℕ → List (ℕ × ℕ)
pair_at heap slot word =
    if crosses heap slot word then (slot_card heap slot, region_at heap word) ∷ [] else []

-- a sweeper finds the word at the slot
abbrev pub read : View → ℕ → ℕ → View
read view slot word =
    record view {
      next = slot + 1;
      pairs = view.pairs ++ pair_at view.shape slot word;
      held = pair_at view.shape slot word;
    }

-- those of the pairs whose bit isn't set in the word
abbrev pub unset : RaceShape → ℕ → List (ℕ × ℕ) → List (ℕ × ℕ)
unset heap word [] = []
unset heap word (pair ∷ pairs) =
    if bit_at word (bit_index heap pair) == 1 then unset heap word pairs
    else pair ∷ unset heap word pairs

-- a sweeper finds the word with the bit of the pair that it holds
abbrev pub sought : View → ℕ → View
sought view word = record view { held = unset view.shape word view.held }

-- a sweeper has set the bit of the pair that it holds
abbrev pub recorded : View → View
recorded view = record view { held = [] }

-- one party's share of the weight is cut off, and the number that goes with it
abbrev pub after_split : View → View
after_split view = record view { weight = view.weight - 1; spare = view.spare - 1 }

-- a racer that has stored nothing gets the number that is cut off
abbrev pub new_racer : View → View
new_racer view = blank (start_of view) 1 ((view.spare - 1, []) ∷ [])

abbrev pub new_sweeper : View → View
new_sweeper view = blank (start_of view) 1 []

-- a reader of a pause, which shares what the pause's own seat knows
abbrev pub new_reader : View → View
new_reader view = frozen_seat (start_of view) 1

-- what two seats at rest know, together; the second one has weight, so its beginning is the race's
abbrev pub both : View → View → View
both view other =
    record view {
      shape = other.shape;
      began_words = other.began_words;
      frozen = other.frozen;
      weight = view.weight + other.weight;
      histories = view.histories ++ other.histories;
      overwritten = view.overwritten ++ other.overwritten;
      claims = view.claims ++ other.claims;
      swept = view.swept ++ other.swept;
      cleanings = view.cleanings ++ other.cleanings;
      pairs = view.pairs ++ other.pairs;
    }

-- the view of a seat that was joined to another
abbrev pub no_seat : View
no_seat =
    blank (null_of (record {
      slots = 0;
      cards = 0;
      size = 0;
      span = 0;
      regions = 0;
      row = 0;
      bits = 0;
      parties = 0;
    })) 0 []
