-- How seats come, are split and are joined, and what all seats have together, which these steps
-- leave as it is. No word changes.
use Rattle.std.specs.Prelude.{◌≡◌, ◌≢◌, ◌⊎◌, ◌↔◌, ◌<◌, ◌≤◌, ◌∷◌, ◌++◌}
use Rattle.g1_race_words.specs.Prelude.{ℕ, List, [], slice_set, Some, some, get_elem?}
use Rattle.g1_race_words.specs.declared.view.View.{View}
use Rattle.g1_race_words.specs.Rule.{AtRest, In, IsBlank}
use Rattle.g1_race_words.specs.Steps.{both, after_split, new_racer, new_reader, new_sweeper}
use Rattle.g1_race_words.specs.Steps.{no_seat}

-- a seat comes, which answers for nothing
abbrev pub Comes : List View → List View → Type 0
Comes before next = (w : View) × IsBlank w × (next ≡ before ++ w ∷ [])

-- a seat is split off: a racer's, a sweeper's or a reader's
abbrev pub SplitsOff : List View → List View → Type 0
SplitsOff before next =
    (seat : ℕ) × (v : View) × (w : View) × (get_elem? before seat ≡ some v)
    × (next ≡ slice_set before seat (after_split v) ++ w ∷ [])
    × ((w ≡ new_racer v) ⊎ (w ≡ new_sweeper v) ⊎ (w ≡ new_reader v))

-- a seat takes in one that is at rest, of which nothing is left
abbrev pub TakesIn : List View → List View → Type 0
TakesIn before next =
    (seat : ℕ) × (other : ℕ) × (v : View) × (u : View) × (get_elem? before seat ≡ some v)
    × (get_elem? before other ≡ some u) × (other ≢ seat) × AtRest u
    × (next ≡ slice_set (slice_set before seat (both v u)) other no_seat)

abbrev pub SeatStep : List View → List View → Type 0
SeatStep before next = Comes before next ⊎ SplitsOff before next ⊎ TakesIn before next

-- it is so of some seat
abbrev pub OfSome : (View → Type 0) → List View → Type 0
OfSome P views = (seat : ℕ) × (v : View) × (get_elem? views seat ≡ some v) × P v

-- the seat has the store, with the racer's number
abbrev pub HasStore : ℕ → ℕ × ℕ → View → Type 0
HasStore number store view =
    (h : List (ℕ × ℕ)) × In view.histories (number, h) × In h store

-- what is so of some seat before is so of one after, and of no more
pub record KeepAll (before next : List View) : Type 0 where
  pub stores : (number : ℕ) (x : ℕ × ℕ)
      → OfSome (HasStore number x) before ↔ OfSome (HasStore number x) next
  pub overwritten : (x : ℕ × ℕ)
      → OfSome (λ v. In v.overwritten x) before ↔ OfSome (λ v. In v.overwritten x) next
  pub claims : (c : ℕ) → OfSome (λ v. In v.claims c) before ↔ OfSome (λ v. In v.claims c) next
  pub cleanings : (c : ℕ)
      → OfSome (λ v. In v.cleanings c) before ↔ OfSome (λ v. In v.cleanings c) next
  pub pairs : (x : ℕ × ℕ) → OfSome (λ v. In v.pairs x) before ↔ OfSome (λ v. In v.pairs x) next
  pub owed : (c : ℕ) → OfSome (λ v. v.owed ≡ Some c) before ↔ OfSome (λ v. v.owed ≡ Some c) next
  pub unread : (p : ℕ) → OfSome (λ v. (v.next ≤ p) × (p < v.end)) before
      ↔ OfSome (λ v. (v.next ≤ p) × (p < v.end)) next

abbrev pub SeatsKeepAll : Type 0
SeatsKeepAll = (before next : List View) → SeatStep before next → KeepAll before next
