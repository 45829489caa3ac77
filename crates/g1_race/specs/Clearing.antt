-- What a clear at a pause does.
use Rattle.std.specs.Prelude.{◌≡◌, ◌≢◌, ◌/◌, ◌<◌, ◌≤◌}
use Rattle.g1_race.specs.Prelude.{ℕ, List, Option, Some, None, true, some, get_elem?, RaceShape}
use Rattle.g1_race.specs.Prelude.{IsPair, mark_word}
use Rattle.g1_race.specs.Prelude.{HasBit, slot_card, crosses, front, region_at}

-- no card is dirty
abbrev pub IsClean : RaceShape → List ℕ → Type 0
IsClean heap words = (c : ℕ) → c < heap.cards → get_elem? words (mark_word heap c) ≡ some 1 → ⊥

-- the slot lies outside the region and refers into it
abbrev pub Into : RaceShape → List ℕ → ℕ → ℕ → Type 0
Into heap words region slot =
    (n : ℕ) × (slot < heap.slots) × (get_elem? words slot ≡ some n) × (crosses heap slot n ≡ true)
    × (region_at heap n ≡ region)

-- the least such slot, of all and of a card
abbrev pub IsLeastInto : RaceShape → List ℕ → ℕ → Option ℕ → Type 0
IsLeastInto heap words region None = (slot : ℕ) → Into heap words region slot → ⊥
IsLeastInto heap words region (Some slot) =
    Into heap words region slot × ((q : ℕ) → Into heap words region q → slot ≤ q)

abbrev pub IsLeastOfCard : RaceShape → List ℕ → ℕ → ℕ → Option ℕ → Type 0
IsLeastOfCard heap words card region None =
    (slot : ℕ) → slot_card heap slot ≡ card → Into heap words region slot → ⊥
IsLeastOfCard heap words card region (Some slot) =
    (slot_card heap slot ≡ card) × Into heap words region slot
    × ((q : ℕ) → slot_card heap q ≡ card → Into heap words region q → slot ≤ q)

-- the first words of the region's row, as many as this, are 0, and nothing else has changed
pub record IsEmptied (heap : RaceShape) (old new : List ℕ) (region words : ℕ) : Type 0 where
  pub front : front heap new ≡ front heap old
  pub kept : (x : ℕ × ℕ) → x.0 < heap.cards → x.1 ≢ region → HasBit heap old x → HasBit heap new x
  pub only : (x : ℕ × ℕ) → x.0 < heap.cards → HasBit heap new x → HasBit heap old x
  pub clear : (x : ℕ × ℕ) → x.0 < heap.cards → x.1 ≡ region → x.0 / 64 < words
      → HasBit heap new x → ⊥

-- the bits of the pairs that are gone are 0, and nothing else has changed
pub record AreUnset (heap : RaceShape) (old new : List ℕ) (Gone : ℕ × ℕ → Type 0) : Type 0 where
  pub front : front heap new ≡ front heap old
  pub kept : (x : ℕ × ℕ) → IsPair heap x → (Gone x → ⊥) → HasBit heap old x → HasBit heap new x
  pub only : (x : ℕ × ℕ) → x.0 < heap.cards → HasBit heap new x → HasBit heap old x
  pub clear : (x : ℕ × ℕ) → IsPair heap x → Gone x → HasBit heap new x → ⊥
