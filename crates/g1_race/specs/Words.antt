-- What the rule of a race says of the words alone.
use Rattle.std.specs.Prelude.{◌≡◌, ◌⊎◌, ◌<◌, ◌≤◌}
use Rattle.g1_race.specs.Prelude.{ℕ, List, true, Some, some, get_elem?, RaceShape, View, Begun, In}
use Rattle.g1_race.specs.Prelude.{Held, held_of, slot_card, region_at, crosses, IsMarked, IsPair}
use Rattle.g1_race.specs.Prelude.{HasBit, StoredInto, BeganInto, Raced}

-- the seat owes the card of the slot, still has the slot to read, or holds the pair of the slot and
-- its word
abbrev pub Minds : RaceShape → View → ℕ → ℕ → Type 0
Minds heap view slot word =
    (view.owed ≡ Some (slot_card heap slot)) ⊎ ((view.next ≤ slot) × (slot < view.end))
    ⊎ In view.held (slot_card heap slot, region_at heap word)

-- each slot that refers into another region has its card marked or its pair's bit set, or some seat
-- minds it
abbrev pub SlotsAreCovered : Type 0
SlotsAreCovered =
    (begun : Begun) (words : List ℕ) (views : List View) → Raced begun words views → (p n : ℕ)
    → p < begun.shape.slots → get_elem? words p ≡ some n → crosses begun.shape p n ≡ true
    → IsMarked begun.shape words p
    ⊎ HasBit begun.shape words (slot_card begun.shape p, region_at begun.shape n)
    ⊎ ((seat : ℕ) × (v : View) × (get_elem? views seat ≡ some v) × Minds begun.shape v p n)

-- the pair is of a reference that some racer stored, or that was there at the beginning, or was
-- recorded then
abbrev pub IsOfReference : Begun → List View → ℕ × ℕ → Type 0
IsOfReference begun views pair =
    StoredInto begun.shape views pair ⊎ BeganInto begun.shape begun.words pair ⊎ In begun.pairs pair

-- each bit that is set, and each pair that a seat holds, is of such a reference
abbrev pub BitsAreOfReferences : Type 0
BitsAreOfReferences =
    (begun : Begun) (words : List ℕ) (views : List View) → Raced begun words views → (x : ℕ × ℕ)
    → IsPair begun.shape x → HasBit begun.shape words x ⊎ Held held_of views x
    → IsOfReference begun views x
