-- What contracts see of the refinement counts and the hot ring, and the rule of hotness.
use Rattle.std.specs.Prelude.{ℕ, List, [], ◌∷◌, ◌++◌, ◌+◌, ◌≤◌, ◌<◌, All, length, drop, min, nat_lt}
use Rattle.std.specs.Prelude.{slice_index, slice_set, if◌then◌else◌, replicate, refl}
use Rattle.std.specs.Coded.{Coded, code_by, coded×, coded_ℕ, coded_list}
use Rattle.circular_buffer.specs.Buffer.{Buffer}
use Rattle.g1_layout.specs.Shape.{Shape, card_count}
use Rattle.g1_hot.specs.declared.offer.Offer.{Offer}
use Rattle.g1_hot.specs.declared.offer.Offer.TheVariants.{Cold, Kept, Out}

pub record Ring : Type 0 where
  pub counts : List ℕ  -- by card: how often it was refined, up to the limit
  pub cards : List ℕ  -- in the ring, oldest first
  pub limit : ℕ  -- the count from which on a card is hot
  pub capacity : ℕ  -- how many cards the ring holds at most

-- a ring is stored as the tuple of its fields
abbrev pub ring_code : Coded Ring
ring_code =
    code_by (List ℕ × (List ℕ × (ℕ × ℕ)))
    (coded× (coded_list coded_ℕ) (coded× (coded_list coded_ℕ) (coded× coded_ℕ coded_ℕ)))
    (λ r. (r.counts, (r.cards, (r.limit, r.capacity))))
    (λ p. record { counts = p.0; cards = p.1.0; limit = p.1.1.0; capacity = p.1.1.1 })
    (λ _. refl)

-- what the fields stand for
abbrev pub ring_of : List ℕ → Buffer ℕ → ℕ → Ring
ring_of counts buffer limit = record {
  counts = counts;
  cards = buffer.items;
  limit = limit;
  capacity = buffer.capacity;
}

-- A card is hot where its count has reached the limit. A hot card enters the ring, and pushes the
-- oldest out where there is no room.
abbrev pub answer : Ring → ℕ → Offer
answer ring card =
    if nat_lt (slice_index ring.counts card) ring.limit then Cold
    else if nat_lt (length ring.cards) ring.capacity then Kept
    else Out (slice_index ring.cards 0)

-- the counts after the card was refined once more
abbrev pub counted : Ring → ℕ → List ℕ
counted ring card = slice_set ring.counts card (min (slice_index ring.counts card + 1) ring.limit)

-- the cards in the ring after that answer to the card
abbrev pub cards_after : List ℕ → ℕ → Offer → List ℕ
cards_after cards card Cold = cards
cards_after cards card Kept = cards ++ card ∷ []
cards_after cards card (Out oldest) = drop 1 cards ++ card ∷ []

abbrev pub offered : Ring → ℕ → Ring
offered ring card = record {
  counts = counted ring card;
  cards = cards_after ring.cards card (answer ring card);
  limit = ring.limit;
  capacity = ring.capacity;
}

-- the oldest card has left the ring
abbrev pub popped : Ring → Ring
popped ring = record {
  counts = ring.counts;
  cards = drop 1 ring.cards;
  limit = ring.limit;
  capacity = ring.capacity;
}

-- every count is 0
abbrev pub reset : Ring → Ring
reset ring = record {
  counts = replicate (length ring.counts) 0;
  cards = ring.cards;
  limit = ring.limit;
  capacity = ring.capacity;
}

-- no card of the layout was refined, and the ring is empty
abbrev pub new_ring : Shape → ℕ → ℕ → Ring
new_ring layout limit capacity = record {
  counts = replicate (card_count layout) 0;
  cards = [];
  limit = limit;
  capacity = capacity;
}

-- what every ring keeps
pub record IsRing (ring : Ring) : Type 0 where
  pub few : length ring.cards ≤ ring.capacity
  pub some : 1 ≤ ring.capacity
  pub most : ring.capacity ≤ 4096
  pub limited : ring.limit ≤ 255
  pub low : All (λ count. count ≤ ring.limit) ring.counts
  pub within : All (λ card. card < length ring.counts) ring.cards
