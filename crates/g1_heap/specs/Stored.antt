-- How a heap is kept: a word a slot and a byte a card, and what they stand for.
use Rattle.std.specs.Prelude.{◌≡◌, if◌then◌else◌}
use Rattle.g1_heap.specs.Prelude.{ℕ, zero, suc, List, Option, Some, None, length, nat_lt, Shape}
use Rattle.g1_heap.specs.Prelude.{IsShape, slot_count, card_count}
use Rattle.g1_heap.specs.declared.mark.Mark.{Mark}
use Rattle.g1_heap.specs.declared.mark.Mark.TheVariants.{Clean, Dirty, Held}

-- a word is the number of the place that a slot refers to; a number that no place has is null
abbrev pub ref_of : Shape → ℕ → Option ℕ
ref_of l word = if nat_lt word (slot_count l) then Some word else None

abbrev pub mark_of : ℕ → Mark
mark_of zero = Clean
mark_of (suc zero) = Dirty
mark_of (suc (suc _)) = Held

-- as many words as slots, and as many bytes as cards
pub record AreStored (l : Shape) (words bytes : List ℕ) : Type 0 where
  pub shape : IsShape l
  pub slots : length words ≡ slot_count l
  pub cards : length bytes ≡ card_count l
