-- Cards that are told apart by a test: the dirty ones, and those of a region's remembered set.
use Rattle.std.specs.Prelude.{◌≡◌, ◌≢◌, ◌%◌, ◌+◌, ◌*◌, ◌<◌, ◌≤◌, ◌==◌, ◌∷◌, ◌++◌, if◌then◌else◌}
use Rattle.g1_race.specs.Prelude.{ℕ, not, length, List, [], zero, suc, Bool, true, false, Option}
use Rattle.g1_race.specs.Prelude.{Some, None, slice_index, bit_at, RaceShape, bit_index, bit_word}
use Rattle.g1_race.specs.Prelude.{mark_word}
use Rattle.g1_race.specs.declared.paused.next.Sought.{Sought}
use Rattle.g1_race.specs.declared.paused.next.Sought.TheVariants.{Dirty, Of}

-- those of the first cards, as many as this, of which the test is true, ascending
abbrev pub cards_where : (ℕ → Bool) → ℕ → List ℕ
cards_where test zero = []
cards_where test (suc count) = cards_where test count ++ (if test count then count ∷ [] else [])

-- whether the card is dirty
abbrev pub is_marked : RaceShape → List ℕ → ℕ → Bool
is_marked heap words card = slice_index words (mark_word heap card) == 1

-- whether the card's pair with the region is recorded
abbrev pub is_member : RaceShape → List ℕ → ℕ → ℕ → Bool
is_member heap words region card =
    bit_at (slice_index words (bit_word heap (card, region))) (bit_index heap (card, region)) == 1

-- all dirty cards, and all of the region's set
abbrev pub marked_cards : RaceShape → List ℕ → List ℕ
marked_cards heap words = cards_where (is_marked heap words) heap.cards

abbrev pub member_cards : RaceShape → List ℕ → ℕ → List ℕ
member_cards heap words region = cards_where (is_member heap words region) heap.cards

-- the same by which cards are sought: the dirty ones, or those of a region's set
abbrev pub is_sought : Sought → RaceShape → List ℕ → ℕ → Bool
is_sought Dirty heap words = is_marked heap words
is_sought (Of region) heap words = is_member heap words region

abbrev pub sought_cards : Sought → RaceShape → List ℕ → List ℕ
sought_cards sought heap words = cards_where (is_sought sought heap words) heap.cards

-- the region is one of the heap's
abbrev pub AreWithin : RaceShape → Sought → Type 0
AreWithin heap Dirty = Unit {0}
AreWithin heap (Of region) = region < heap.regions

-- how many pairs are recorded for the first regions, as many as this
abbrev pub pair_count : RaceShape → List ℕ → ℕ → ℕ
pair_count heap words zero = 0
pair_count heap words (suc region) =
    pair_count heap words region + length (member_cards heap words region)

-- whether some card of a block of 64 is in the region's set, and for which of the first regions one
-- is
abbrev pub has_block : RaceShape → List ℕ → ℕ → ℕ → Bool
has_block heap words block region =
    not (slice_index words (heap.slots + heap.cards + (region * heap.row + block)) == 0)

abbrev pub block_regions : RaceShape → List ℕ → ℕ → ℕ → List ℕ
block_regions heap words block count = cards_where (has_block heap words block) count

-- a card at or after `from`, below the limit, and of none between the two the test is true; or of
-- none at all up to the limit
abbrev pub SkipsNone : (ℕ → Bool) → ℕ → ℕ → Option ℕ → Type 0
SkipsNone test limit from None = (card : ℕ) → from ≤ card → card < limit → test card ≡ false
SkipsNone test limit from (Some card) =
    (from ≤ card) × (card < limit)
    × ((other : ℕ) → from ≤ other → other < card → test other ≡ false)

-- the card's own flag is set, or the card is `from`, which is not the first of its eight
abbrev pub IsFlaggedFrom : RaceShape → List ℕ → ℕ → ℕ → Type 0
IsFlaggedFrom heap words from card =
    (from % 8 ≡ 0 → is_member heap words heap.regions card ≡ true) × (from % 8 ≢ 0 → card ≡ from)

-- the least card at or after `from`, below the limit, of which the test is true
abbrev pub IsNext : (ℕ → Bool) → ℕ → ℕ → Option ℕ → Type 0
IsNext test limit from None = (card : ℕ) → from ≤ card → card < limit → test card ≡ false
IsNext test limit from (Some card) =
    (from ≤ card) × (card < limit) × (test card ≡ true)
    × ((other : ℕ) → from ≤ other → other < card → test other ≡ false)
