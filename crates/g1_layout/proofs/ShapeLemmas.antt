-- Where the slots, cards and regions of a shape lie: laws for the proofs of the crates above, each stated once.
use Rattle.std.proofs.Common.{◌≡◌, ℕ, ◌+◌, ◌-◌, ◌*◌, ◌/◌, ◌%◌, ◌<◌, ◌≤◌, subst, sym, ap, ◌∙◌, arith}
use Rattle.std.proofs.Math.Nat.{mul_comm, mul_assoc, div-div-eq-div-mul, div-mul-le_self, lt-div-mul-add, div-lt_iff_lt-mul}
use Rattle.std.proofs.lemmas.Nat.{div-mul-add, row_fits, mul-le}
use Rattle.g1_layout.specs.Shape.{Shape, IsShape, slot_count, card_count, card_of, region_of, region_of_card, same_offset}

-- the slot is one of the card's own row
pub record IsInRow (l : Shape) (card slot : ℕ) : Type 0 where
  pub from : card * l.slots ≤ slot
  pub below : slot < card * l.slots + l.slots

-- a card's slots are its own
pub card_of-row : (l : Shape) (card k : ℕ) → k < l.slots → card_of l (card * l.slots + k) ≡ card
card_of-row l card k less = div-mul-add card l.slots k less

pub card_of-in_row : (l : Shape) (card slot : ℕ) → IsInRow l card slot → card_of l slot ≡ card
card_of-in_row l card slot h =
    let less : slot - card * l.slots < l.slots = omega (arith, h.from, h.below) in
    let at : card * l.slots + (slot - card * l.slots) ≡ slot = omega (arith, h.from) in
    sym (ap (card_of l) at) ∙ card_of-row l card (slot - card * l.slots) less

-- and a slot lies in the row of its card
pub row_of_slot : (l : Shape) (slot : ℕ) → IsShape l → IsInRow l (card_of l slot) slot
row_of_slot l slot shape = record { from = div-mul-le_self slot l.slots; below = lt-div-mul-add {a = slot} shape.slots_low }

pub row_of_card : (l : Shape) (card slot : ℕ) → IsShape l → card_of l slot ≡ card → IsInRow l card slot
row_of_card l card slot shape e = subst (λ (c : ℕ). IsInRow l c slot) e (row_of_slot l slot shape)

-- a slot's region is its card's region
pub region_of_slot : (l : Shape) (slot : ℕ) → region_of_card l (card_of l slot) ≡ region_of l slot
region_of_slot l slot = div-div-eq-div-mul slot l.slots l.cards ∙ ap (λ (k : ℕ). slot / k) (mul_comm l.slots l.cards)

-- so the slots of a card lie in the card's region
pub region_of-row : (l : Shape) (card k : ℕ) → k < l.slots → region_of l (card * l.slots + k) ≡ region_of_card l card
region_of-row l card k less = sym (region_of_slot l (card * l.slots + k)) ∙ ap (region_of_card l) (card_of-row l card k less)

pub region_of-offset : (l : Shape) (region k : ℕ) → k < l.cards * l.slots → region_of l (region * (l.cards * l.slots) + k) ≡ region
region_of-offset l region k less = div-mul-add region (l.cards * l.slots) k less

-- each region has slots
pub region_has_slots : (l : Shape) → IsShape l → 0 < l.cards * l.slots
region_has_slots l shape = mul-le 1 1 l.cards l.slots shape.cards_low shape.slots_low

-- numbers are in range
pub card_of_below : (l : Shape) (slot : ℕ) → IsShape l → slot < slot_count l → card_of l slot < card_count l
card_of_below l slot shape less = (div-lt_iff_lt-mul shape.slots_low).1 less

pub region_of_below : (l : Shape) (slot : ℕ) → IsShape l → slot < slot_count l → region_of l slot < l.regions
region_of_below l slot shape less = (div-lt_iff_lt-mul (region_has_slots l shape)).1 (omega (arith, less, mul_assoc l.regions l.cards l.slots))

-- the slots of a card and of a region end within the heap
pub row_ends_within : (l : Shape) (card : ℕ) → card < card_count l → card * l.slots + l.slots ≤ slot_count l
row_ends_within l card less = row_fits card l.slots (card_count l) l.slots less (omega arith)

pub region_ends_within : (l : Shape) (region : ℕ) → region < l.regions → region * (l.cards * l.slots) + l.cards * l.slots ≤ slot_count l
region_ends_within l region less =
    omega (arith, row_fits region (l.cards * l.slots) l.regions (l.cards * l.slots) less (omega arith), mul_assoc l.regions l.cards l.slots)

-- the place at the same offset in another region lies in that region, and within the heap
pub same_offset_region : (l : Shape) (place to : ℕ) → 0 < l.cards * l.slots → region_of l (same_offset l place to) ≡ to
same_offset_region l place to some =
    let less : place % (l.cards * l.slots) < l.cards * l.slots = omega arith in
    region_of-offset l to (place % (l.cards * l.slots)) less

pub same_offset_below : (l : Shape) (place to : ℕ) → 0 < l.cards * l.slots → to < l.regions → same_offset l place to < slot_count l
same_offset_below l place to some less =
    let rest : place % (l.cards * l.slots) < l.cards * l.slots = omega arith in
    omega (arith, rest, region_ends_within l to less)

pub card_count_limit : (l : Shape) → IsShape l → card_count l ≤ 16777216
card_count_limit l shape = mul-le l.regions l.cards 256 65536 shape.regions_high shape.cards_high

-- and slots
pub slot_count_limit : (l : Shape) → IsShape l → slot_count l ≤ 1073741824
slot_count_limit l shape = mul-le (card_count l) l.slots 16777216 64 (card_count_limit l shape) shape.slots_high
