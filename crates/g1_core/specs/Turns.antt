-- The turn of a card in refinement, and a round of turns.
use Rattle.std.specs.Prelude.{◌∷◌, ◌++◌, if◌then◌else◌, ◌&&◌, ◌+◌}
use Rattle.g1_core.specs.Prelude.{ℕ, Bool, List, [], Option}
use Rattle.g1_core.specs.Prelude.{Some, None, not, fold, Offer, Cold, Kept, Out, Ring, answer}
use Rattle.g1_core.specs.Prelude.{offered, set_of}
use Rattle.std.specs.FinSet as set
use Rattle.g1_core.specs.Table.{refined}
use Rattle.g1_core.specs.Machine.{State}

-- a card is dirty where it is pending and does not stand in the ring
abbrev pub is_dirty : State → ℕ → Bool
is_dirty s card = set.contains s.table.pending card && not (set.contains (set_of s.ring.cards) card)

-- what the ring answers to the card, if it is dirty
abbrev pub offer_to : State → ℕ → Option Offer
offer_to s card = if is_dirty s card then Some (answer s.ring card) else None

-- the card that is refined: a cold one itself, or the oldest one that a hot card pushed out of the
-- ring
abbrev pub refined_by : ℕ → Option Offer → List ℕ
refined_by card None = []
refined_by card (Some Cold) = card ∷ []
refined_by card (Some Kept) = []
refined_by card (Some (Out oldest)) = oldest ∷ []

abbrev pub hot_by : Option Offer → ℕ
hot_by None = 0
hot_by (Some Cold) = 0
hot_by (Some Kept) = 1
hot_by (Some (Out _)) = 1

abbrev pub skipped_by : Option Offer → ℕ
skipped_by None = 1
skipped_by (Some _) = 0

abbrev pub ring_after : Ring → ℕ → Option Offer → Ring
ring_after ring card None = ring
ring_after ring card (Some _) = offered ring card

abbrev pub state_after : State → ℕ → Option Offer → State
state_after s card offer =
    record { table = refined (refined_by card offer) s.table; ring = ring_after s.ring card offer }

-- a round of turns so far
pub record Round : Type 0 where
  pub state : State
  pub refined : List ℕ
  pub hot : ℕ
  pub skipped : ℕ

abbrev pub turn_by : Round → ℕ → Option Offer → Round
turn_by r card offer = record {
  state = state_after r.state card offer;
  refined = r.refined ++ refined_by card offer;
  hot = r.hot + hot_by offer;
  skipped = r.skipped + skipped_by offer;
}

abbrev pub turn : Round → ℕ → Round
turn r card = turn_by r card (offer_to r.state card)

abbrev pub turns : Round → List ℕ → Round
turns r cards = fold turn r cards

abbrev pub start : State → Round
start s = record { state = s; refined = []; hot = 0; skipped = 0 }
