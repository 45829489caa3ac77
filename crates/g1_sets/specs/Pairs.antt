-- What contracts see of the remembered sets: the recorded pairs (card, region), and the cards of
-- each region in the order of their insertion.
use Rattle.std.specs.Prelude.{◌≡◌, ◌≢◌, ◌↔◌, ◌<◌, ◌+◌, ◌==◌, ◌∷◌, ◌++◌, if◌then◌else◌}
use Rattle.g1_sets.specs.Prelude.{ℕ, not, List, [], map, length, fold, slice_index_or, nat_eq}
use Rattle.g1_sets.specs.Prelude.{replicate, Contains, IsTrue, All, refl, IsDistinct, list_any}
use Rattle.g1_sets.specs.Prelude.{IsStrictlyIncreasing, Shape, shape_code, card_count}
use Rattle.g1_sets.specs.Prelude.{region_of_card, PairSet}
use Rattle.std.specs.Coded.{Coded, code_by, coded×, coded_list, coded_ℕ}
use Rattle.std.specs.FinSet as set

pub record Pairs : Type 0 where
  pub layout : Shape
  pub pairs : PairSet
  pub lists : List (List ℕ)  -- by region: its cards in the order of their insertion

-- the sets are stored as the tuple of their fields
abbrev pub pairs_code : Coded Pairs
pairs_code =
    code_by (Shape × (PairSet × List (List ℕ)))
    (coded× shape_code (coded× (set.code (coded× coded_ℕ coded_ℕ))
    (coded_list (coded_list coded_ℕ)))) (λ s. (s.layout, (s.pairs, s.lists))) (λ p.
    record { layout = p.0; pairs = p.1.0; lists = p.1.1 }) (λ _. refl)

-- the cards of a region in the order of their insertion
abbrev pub list_at : List (List ℕ) → ℕ → List ℕ
list_at lists region = slice_index_or lists region []

-- a card's pairs with some regions
abbrev pub of_card : ℕ → List ℕ → PairSet
of_card card regions = set.from_list (map (λ region. (card, region)) regions)

-- some cards' pairs with a region
abbrev pub of_region : List ℕ → ℕ → PairSet
of_region cards region = set.from_list (map (λ card. (card, region)) cards)

-- the pairs without those at a region
abbrev pub without : PairSet → ℕ → PairSet
without pairs region = set.retain pairs (λ pair. not (pair.1 == region))

-- the pairs of all the lists, the first of which is that of region `first`
abbrev pub pairs_from : ℕ → List (List ℕ) → List (ℕ × ℕ)
pairs_from first [] = []
pairs_from first (cards ∷ lists) = map (λ card. (card, first)) cards ++ pairs_from (first + 1) lists

abbrev pub pairs_of : List (List ℕ) → PairSet
pairs_of lists = set.from_list (pairs_from 0 lists)

-- The lists are those of a heap: one for each region, of cards of the heap, each once.
pub record AreLists (l : Shape) (lists : List (List ℕ)) : Type 0 where
  pub count : length lists ≡ l.regions
  pub distinct : (region : ℕ) → IsDistinct nat_eq (list_at lists region)
  pub below : (region : ℕ) → All (λ card. card < card_count l) (list_at lists region)

-- What all sets keep: a list has just the cards that have a pair at its region.
pub record AreTied (s : Pairs) : Type 0 where
  pub lists : AreLists s.layout s.lists
  pub members : (card region : ℕ) → Contains (list_at s.lists region) card
      ↔ IsTrue (set.contains s.pairs (card, region))

-- each recorded card lies outside its region
abbrev pub HasOnlyOutside : Shape → PairSet → Type 0
HasOnlyOutside l pairs =
    (card region : ℕ) → IsTrue (set.contains pairs (card, region)) → region_of_card l card ≢ region

-- no pair is recorded
abbrev pub new_pairs : Shape → Pairs
new_pairs l = record { layout = l; pairs = set.empty; lists = replicate l.regions [] }

-- the list after a card is inserted: one that is there keeps its place, and a new one goes last
abbrev pub with_card : List ℕ → ℕ → List ℕ
with_card cards card = if list_any (nat_eq card) cards then cards else cards ++ card ∷ []

-- the list after some cards are inserted in turn
abbrev pub with_cards : List ℕ → List ℕ → List ℕ
with_cards cards more = fold with_card cards more

-- The card is inserted into the lists of the regions, and the other lists stay.
pub record Joins (card : ℕ) (regions : List ℕ) (old new : List (List ℕ)) : Type 0 where
  pub count : length new ≡ length old
  pub joined : (region : ℕ) → Contains regions region
      → list_at new region ≡ with_card (list_at old region) card
  pub others : (region : ℕ) → (Contains regions region → ⊥)
      → list_at new region ≡ list_at old region

-- the cards with a recorded pair at the region, ascending, each once
pub record AreCardsOf (pairs : PairSet) (region : ℕ) (cards : List ℕ) : Type 0 where
  pub ascending : IsStrictlyIncreasing cards
  pub recorded : (card : ℕ) → Contains cards card → IsTrue (set.contains pairs (card, region))
  pub all : (card : ℕ) → IsTrue (set.contains pairs (card, region)) → Contains cards card
