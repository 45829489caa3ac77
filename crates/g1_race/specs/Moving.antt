-- What a redirect at a pause does to the words.
use Rattle.std.specs.Prelude.{◌≡◌, ◌≢◌, ◌⊎◌, ◌+◌, ◌-◌, ◌*◌, ◌/◌, ◌%◌, ◌<◌, ◌≤◌, ◌==◌, ◌&&◌}
use Rattle.std.specs.Prelude.{if◌then◌else◌}
use Rattle.g1_race.specs.Prelude.{ℕ, Bool, true, List, zero, suc, slice_index, some, get_elem?}
use Rattle.g1_race.specs.Prelude.{RaceShape, IsBegun, HasBit, slot_card, crosses, mark_word}
use Rattle.g1_race.specs.Prelude.{as_number, region_at, started}
use Rattle.g1_race.specs.Clearing.{IsEmptied}

-- the slot, with this word, lies outside the region and refers into it
abbrev pub is_into : RaceShape → ℕ → ℕ → ℕ → Bool
is_into heap region slot word = crosses heap slot word && (region_at heap word == region)

-- the word of a reference that is moved to the same offset of another region
abbrev pub moved_word : RaceShape → ℕ → ℕ → ℕ
moved_word heap to word = to * heap.span + (word - 1) % heap.span + 1

-- what a slot's word becomes
abbrev pub word_after : RaceShape → ℕ → ℕ → ℕ → ℕ → ℕ
word_after heap from to slot word =
    if is_into heap from slot word then moved_word heap to word else word

-- how many of `count` slots at or after `first` lie outside the region and refer into it
abbrev pub into_count : RaceShape → List ℕ → ℕ → ℕ → ℕ → ℕ
into_count heap words region first zero = 0
into_count heap words region first (suc count) = into_count heap words region first count
    + as_number (is_into heap region (first + count) (slice_index words (first + count)))

-- a slot that is moved has this pair then
abbrev pub Acquires : RaceShape → List ℕ → ℕ → ℕ → ℕ × ℕ → Type 0
Acquires heap words from to pair =
    (p : ℕ) × (n : ℕ) × (p < heap.slots) × (get_elem? words p ≡ some n)
    × (is_into heap from p n ≡ true) × (p / heap.span ≢ to) × ((slot_card heap p, to) ≡ pair)

-- the references of `count` slots at or after `first` are moved from the one region to the other,
-- and recorded for it
pub record AreMoved (heap : RaceShape) (old new : List ℕ) (from to first count : ℕ) : Type 0 where
  pub moved : (p n : ℕ) → first ≤ p → p < first + count → p < heap.slots →
      get_elem? old p ≡ some n → get_elem? new p ≡ some (word_after heap from to p n)
  pub outside : (p : ℕ) → p < heap.slots → (p < first) ⊎ (first + count ≤ p) →
      get_elem? new p ≡ get_elem? old p
  pub marks : (c : ℕ) → c < heap.cards →
      get_elem? new (mark_word heap c) ≡ get_elem? old (mark_word heap c)
  pub kept : (x : ℕ × ℕ) → HasBit heap old x → HasBit heap new x
  pub only : (x : ℕ × ℕ) → x.0 < heap.cards → HasBit heap new x
      → HasBit heap old x ⊎ Acquires heap old from to x
  pub has : (p n : ℕ) → first ≤ p → p < first + count → p < heap.slots → get_elem? old p ≡ some n →
      is_into heap from p n ≡ true → p / heap.span ≢ to → HasBit heap new (slot_card heap p, to)

-- all references into the region are moved to the other, and its pairs are forgotten
pub record AreMovedAway (heap : RaceShape) (old new : List ℕ) (from to : ℕ) : Type 0 where
  pub between : List ℕ
  pub begun : IsBegun (started heap between)
  pub moved : AreMoved heap old between from to 0 heap.slots
  pub emptied : IsEmptied heap between new from heap.row
