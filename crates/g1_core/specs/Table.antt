-- The plain table of a heap: what each slot refers to, which cards are pending, and which pairs
-- (card, region) are recorded. It knows no buffer, count, order or mark.
use Rattle.std.specs.Prelude.{◌≡◌, ◌≢◌, ◌<◌, ◌==◌, ◌⊎◌, if◌then◌else◌, ◌&&◌}
use Rattle.g1_core.specs.Prelude.{ℕ, Bool, List}
use Rattle.g1_core.specs.Prelude.{Option, Some, None, IsTrue, replicate, slice_index_or, nat_eq}
use Rattle.g1_core.specs.Prelude.{All, map, count_by, not, false, IsDistinct, filter_map}
use Rattle.g1_core.specs.Prelude.{enumerate_from, Shape, slot_count, card_count, card_of, region_of}
use Rattle.g1_core.specs.Prelude.{region_of_card, same_offset, HoldsIn, AreCardsOf, CardSet}
use Rattle.g1_core.specs.Prelude.{PairSet, set_of, without}
use Rattle.std.specs.FinSet as set

pub record Table : Type 0 where
  pub layout : Shape
  pub refs : List (Option ℕ)  -- by slot: the place that it refers to, or null
  pub pending : CardSet
  pub recorded : PairSet

-- all null, nothing pending, nothing recorded
abbrev pub opening : Shape → Table
opening layout =
    record {
      layout = layout;
      refs = replicate (slot_count layout) None;
      pending = set.empty;
      recorded = set.empty;
    }

abbrev pub target_of : Table → ℕ → Option ℕ
target_of t slot = slice_index_or t.refs slot None

abbrev pub IsPending : Table → ℕ → Type 0
IsPending t card = IsTrue (set.contains t.pending card)

abbrev pub IsRecorded : Table → ℕ → ℕ → Type 0
IsRecorded t card region = IsTrue (set.contains t.recorded (card, region))

-- The slot refers into another region, to this place.
pub record Crosses (t : Table) (slot place : ℕ) : Type 0 where
  pub refers : target_of t slot ≡ Some place
  pub across : region_of t.layout slot ≢ region_of t.layout place

-- The slot lies outside the region and refers into it.
pub record Enters (t : Table) (slot region : ℕ) : Type 0 where
  pub place : ℕ
  pub refers : target_of t slot ≡ Some place
  pub into : region_of t.layout place ≡ region
  pub outside : region_of t.layout slot ≢ region

-- A card holds into a region where it doesn't lie in the region, and one of its slots refers to a
-- place in it.
abbrev pub Holds : Table → ℕ → ℕ → Type 0
Holds t card region = HoldsIn t.layout t.refs card region

-- Cover: where a slot refers into another region, its card is pending or the pair is recorded.
abbrev pub IsCovered : Table → Type 0
IsCovered t =
    (slot place : ℕ) → Crosses t slot place → IsPending t (card_of t.layout slot)
    ⊎ IsRecorded t (card_of t.layout slot) (region_of t.layout place)

-- Each recorded pair is of a card and a region of the heap, and the card lies outside the region.
abbrev pub AreOutside : Table → Type 0
AreOutside t =
    (card region : ℕ) → IsRecorded t card region
    → (card < card_count t.layout) × (region < t.layout.regions)
    × (region_of_card t.layout card ≢ region)

-- the cards with a recorded pair at the region, ascending, each once
abbrev pub AreMembers : Table → ℕ → List ℕ → Type 0
AreMembers t region cards = AreCardsOf t.recorded region cards

-- the pair (card, region) that a slot and what it refers to make, if it refers into another region
abbrev pub pair_of : Shape → ℕ × Option ℕ → Option (ℕ × ℕ)
pair_of l (slot, None) = None
pair_of l (slot, Some place) =
    if region_of l slot == region_of l place then None else Some (card_of l slot, region_of l place)

-- the pairs (card, region) of which the card holds into the region
abbrev pub held : Table → PairSet
held t = set.from_list (filter_map (pair_of t.layout) (enumerate_from 0 t.refs))

-- Refining these cards: they are pending no more, and each pair that they hold now is recorded.
abbrev pub refined : List ℕ → Table → Table
refined cards t = record {
  layout = t.layout;
  refs = t.refs;
  pending = set.difference t.pending (set_of cards);
  recorded = set.union t.recorded
      (set.retain (held t) (λ pair. set.contains (set_of cards) pair.0));
}

-- what may be refined: distinct cards that are pending
pub record AreRefinable (t : Table) (cards : List ℕ) : Type 0 where
  pub distinct : IsDistinct nat_eq cards
  pub pending : All (IsPending t) cards

-- whether a slot, with what it refers to, lies outside the region and refers into it
abbrev pub enters : Shape → ℕ → ℕ × Option ℕ → Bool
enters l region (slot, None) = false
enters l region (slot, Some place) =
    not (region_of l slot == region) && (region_of l place == region)

-- what a slot refers to once references into one region are moved to another
abbrev pub moved_target : Shape → ℕ → ℕ → ℕ × Option ℕ → Option ℕ
moved_target l from to (slot, None) = None
moved_target l from to (slot, Some place) =
    if enters l from (slot, Some place) then Some (same_offset l place to) else Some place

-- the pair that such a slot makes, if it lies outside the other region too
abbrev pub moved_pair : Shape → ℕ → ℕ → ℕ × Option ℕ → Option (ℕ × ℕ)
moved_pair l from to slot =
    if enters l from slot && not (region_of l slot.0 == to) then Some (card_of l slot.0, to)
    else None

-- References into a region are moved to another, and its set is cleared.
abbrev pub moved : ℕ → ℕ → Table → Table
moved from to t =
    let slots = enumerate_from 0 t.refs in
    record {
      layout = t.layout;
      refs = map (moved_target t.layout from to) slots;
      pending = t.pending;
      recorded = without (set.union t.recorded
          (set.from_list (filter_map (moved_pair t.layout from to) slots))) from;
    }

-- how many slots that changes
abbrev pub moved_count : ℕ → Table → ℕ
moved_count from t = count_by (enters t.layout from) (enumerate_from 0 t.refs)
