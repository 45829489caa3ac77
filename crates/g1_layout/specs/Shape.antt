-- The counts of a heap, and where a slot and a card lie in it.
use Rattle.std.specs.Prelude.{ℕ, ◌+◌, ◌*◌, ◌/◌, ◌%◌, ◌≤◌, refl}
use Rattle.std.specs.Coded.{Coded, code_by, coded×, coded_ℕ}

-- regions of cards of slots: how many regions, cards a region and slots a card
pub record Shape : Type 0 where
  pub regions : ℕ
  pub cards : ℕ
  pub slots : ℕ

-- a shape is stored as the tuple of its counts
abbrev pub shape_code : Coded Shape
shape_code =
    code_by (ℕ × (ℕ × ℕ)) (coded× coded_ℕ (coded× coded_ℕ coded_ℕ))
    (λ l. (l.regions, (l.cards, l.slots)))
    (λ p. record { regions = p.0; cards = p.1.0; slots = p.1.1 }) (λ _. refl)

-- the limits of every heap
pub record IsShape (l : Shape) : Type 0 where
  pub regions_low : 1 ≤ l.regions
  pub regions_high : l.regions ≤ 256
  pub cards_low : 1 ≤ l.cards
  pub cards_high : l.cards ≤ 65536
  pub slots_low : 1 ≤ l.slots
  pub slots_high : l.slots ≤ 64

-- the narrower limits of the profile
pub record IsWithinProfile (l : Shape) : Type 0 where
  pub shape : IsShape l
  pub cards : l.cards ≤ 256
  pub total : l.regions * l.cards * l.slots ≤ 1048576

-- how many slots and cards the heap has
abbrev pub slot_count : Shape → ℕ
slot_count l = l.regions * l.cards * l.slots

abbrev pub card_count : Shape → ℕ
card_count l = l.regions * l.cards

-- the card and the region that a slot lies in, and the region that a card lies in
abbrev pub card_of : Shape → ℕ → ℕ
card_of l slot = slot / l.slots

abbrev pub region_of : Shape → ℕ → ℕ
region_of l slot = slot / (l.cards * l.slots)

abbrev pub region_of_card : Shape → ℕ → ℕ
region_of_card l card = card / l.cards

-- the slot at an offset of a card, and the place at the same offset in another region
abbrev pub slot_at : Shape → ℕ → ℕ → ℕ
slot_at l card offset = card * l.slots + offset

abbrev pub same_offset : Shape → ℕ → ℕ → ℕ
same_offset l place to = to * (l.cards * l.slots) + place % (l.cards * l.slots)
