-- How long the lists are that a core answers: no longer than the heap has cards.
use Rattle.std.specs.Prelude.{◌<◌, ◌≤◌}
use Rattle.g1_handles.specs.{ℕ, List, length, arith, eqb-true, All-contains, card_count, card_count_limit, IsPending, AreRefinable, AreMembers, Machine, State, IsSound, DoesDrain, drain_cards, Drained}
use Rattle.std.proofs.lemmas.Map.Steps.{length-le_from_distinct_below}
use Rattle.std.proofs.lemmas.Map.Views.{length-le_from_below, Contains-from_any}
use Rattle.std.proofs.lemmas.Map.Keys.{sorted_from_strictly_increasing}
use Rattle.g1_core.specs.declared.reply.Drained.TheVariants.{Cards, Short}
use Rattle.g1_core.proofs.SetLemmas.{All_by_member}

-- distinct pending cards
pub few_refined : (s : State) (cards : List ℕ) → IsSound s → AreRefinable s.table cards → length cards ≤ card_count s.table.layout
few_refined s cards sound h = length-le_from_distinct_below cards (card_count s.table.layout) h.distinct (λ q c. sound.pending q (All-contains (IsPending s.table) cards q h.pending (Contains-from_any eqb-true q cards c)))

-- the members of a region
pub few_members : (s : State) (region : ℕ) (cards : List ℕ) → IsSound s → AreMembers s.table region cards → length cards ≤ card_count s.table.layout
few_members s region cards sound h =
    length-le_from_below (card_count s.table.layout) cards (sorted_from_strictly_increasing cards h.ascending) (All_by_member (λ card. card < card_count s.table.layout) cards (λ card c. (sound.recorded card region (h.recorded card c)).0))

-- the cards of a drain's answer
pub few_drained : (old new : Machine) (region : ℕ) (answer : Drained) → DoesDrain region answer old new → length (drain_cards answer) ≤ card_count old.state.table.layout
few_drained old new region (Cards cards refined) did = length-le_from_below (card_count old.state.table.layout) cards (sorted_from_strictly_increasing cards did.drained.1.ascending) did.within
few_drained old new region (Short refined) did = omega arith

-- a heap has at most 2^24 cards
pub fits_words : (s : State) (cards : List ℕ) → IsSound s → length cards ≤ card_count s.table.layout → length cards ≤ 16777216
fits_words s cards sound few = let most : card_count s.table.layout ≤ 16777216 = card_count_limit s.table.layout sound.shape in omega arith
