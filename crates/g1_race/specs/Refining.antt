-- What refinement at a pause does to the words.
use Rattle.std.specs.Prelude.{◌≡◌, ◌≢◌, ◌⊎◌, ◌+◌, ◌*◌, ◌<◌, ◌≤◌, ◌∷◌, ◌++◌}
use Rattle.g1_race.specs.Prelude.{ℕ, List, [], zero, suc, Contains, slice_index_or, slice_set, some}
use Rattle.g1_race.specs.Prelude.{get_elem?, Table, Holds, IsPending, IsCovered, AreMembers}
use Rattle.g1_race.specs.Prelude.{RaceShape}
use Rattle.g1_race.specs.Prelude.{In, IsBegun, IsPair, HasBit, BeganInto, flag, mark_word, started}
use Rattle.g1_race.specs.Prelude.{pair_at}

-- the pairs of the card's first slots, as many as this
abbrev pub card_pairs : RaceShape → List ℕ → ℕ → ℕ → List (ℕ × ℕ)
card_pairs heap words card zero = []
card_pairs heap words card (suc count) =
    card_pairs heap words card count ++ pair_at heap (card * heap.size + count)
    (slice_index_or words (card * heap.size + count) 0)

-- the bits of these pairs are set, and nothing else changes
pub record Notes (heap : RaceShape) (old new : List ℕ) (pairs : List (ℕ × ℕ)) : Type 0 where
  pub front : (i : ℕ) → i < heap.slots + heap.cards → get_elem? new i ≡ get_elem? old i
  pub kept : (x : ℕ × ℕ) → HasBit heap old x → HasBit heap new x
  pub has : (x : ℕ × ℕ) → In pairs x → HasBit heap new x
  pub only : (x : ℕ × ℕ) → x.0 < heap.cards → HasBit heap new x → HasBit heap old x ⊎ In pairs x

-- the card is dirtied: its flag is set, and then its mark, and nothing else changes
pub record IsDirtied (heap : RaceShape) (old new : List ℕ) (card : ℕ) : Type 0 where
  pub mid : List ℕ
  pub flagged : Notes heap old mid (flag heap card ∷ [])
  pub begun : IsBegun (started heap mid)
  pub marked : new ≡ slice_set mid (mark_word heap card) 1

-- the card is clean, and the pairs of its references are recorded
pub record RefinesCard (heap : RaceShape) (old new : List ℕ) (card : ℕ) : Type 0 where
  pub slots : (p : ℕ) → p < heap.slots → get_elem? new p ≡ get_elem? old p
  pub clean : get_elem? new (mark_word heap card) ≡ some 0
  pub marks : (d : ℕ) → d < heap.cards → d ≢ card
      → get_elem? new (mark_word heap d) ≡ get_elem? old (mark_word heap d)
  pub kept : (x : ℕ × ℕ) → HasBit heap old x → HasBit heap new x
  pub only : (x : ℕ × ℕ) → x.0 < heap.cards → HasBit heap new x
      → HasBit heap old x ⊎ ((x.0 ≡ card) × BeganInto heap old x)

-- the dirty ones of the first cards, as many as this, are clean, and beside the old pairs only
-- those of their references are recorded
pub record AreRefined (heap : RaceShape) (old new : List ℕ) (count : ℕ) : Type 0 where
  pub slots : (p : ℕ) → p < heap.slots → get_elem? new p ≡ get_elem? old p
  pub clean : (c : ℕ) → c < count → c < heap.cards → get_elem? new (mark_word heap c) ≡ some 0
  pub marks : (c : ℕ) → count ≤ c → c < heap.cards
      → get_elem? new (mark_word heap c) ≡ get_elem? old (mark_word heap c)
  pub kept : (x : ℕ × ℕ) → IsPair heap x → HasBit heap old x → HasBit heap new x
  pub only : (x : ℕ × ℕ) → x.0 < heap.cards → HasBit heap new x
      → HasBit heap old x ⊎ ((get_elem? old (mark_word heap x.0) ≡ some 1) × BeganInto heap old x)

-- no flag is set: a walk over the dirty cards reads no mark then
abbrev pub AreUnflagged : RaceShape → List ℕ → Type 0
AreUnflagged heap words = (c : ℕ) → c < heap.cards → HasBit heap words (flag heap c) → ⊥

-- where nothing is pending and each reference is covered, the members of a region are exact: every
-- card that holds into it is one
abbrev pub AreMembersComplete : Type 0
AreMembersComplete =
    (t : Table) (region : ℕ) (cards : List ℕ) → ((card : ℕ) → IsPending t card → ⊥) → IsCovered t
    → AreMembers t region cards → (card : ℕ) → Holds t card region → Contains cards card
