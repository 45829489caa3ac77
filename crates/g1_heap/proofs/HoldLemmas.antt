-- Where the regions lie that a card holds into.
use Rattle.std.specs.Prelude.{◌≡◌, ◌<◌}
use Rattle.g1_heap.specs.{inl, inr, ℕ, List, length, get_or, Some, None, sym, ◌∙◌, subst, All, Contains, IfSome, cases_lt, get_or_past, get_or_default, slot_count, region_of_below, AreCells, HoldsIn}
use Rattle.g1_heap.specs.Cells.{Cells}

-- what a slot refers to is a place of the heap
pub place_within : (c : Cells) (slot place : ℕ) → AreCells c → get_or c.refs slot None ≡ Some place → place < slot_count c.layout
place_within c slot place cells refers = elim (cases_lt slot (length c.refs)) [
  | inl below ↦ subst (λ o. IfSome o (λ place. place < slot_count c.layout)) refers (cells.places slot None below)
  | inr past ↦ let null : None ≡ Some place = sym (get_or_past c.refs slot None past) ∙ refers in absurd (cc)
]

-- a card holds into regions of the heap
pub holds_within : (c : Cells) (card region : ℕ) → AreCells c → HoldsIn c.layout c.refs card region → region < c.layout.regions
holds_within c card region cells h = subst (λ r. r < c.layout.regions) h.into (region_of_below c.layout h.place cells.shape (place_within c h.slot h.place cells h.refers))

-- the regions of a list that the card holds into are regions of the heap
pub targets_within : (c : Cells) (card : ℕ) (regions : List ℕ) → AreCells c → ((r : ℕ) → Contains regions r → HoldsIn c.layout c.refs card r) → All (λ region. region < c.layout.regions) regions
targets_within c card regions cells holds k d below =
    holds_within c card (get_or regions k d) cells (holds (get_or regions k d) (k, below, get_or_default regions k (get_or regions k d) d below))
