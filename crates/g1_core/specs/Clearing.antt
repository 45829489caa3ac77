-- What a clear finds: the least slot on some cards that refers into a region, and how many slots
-- are read for it.
use Rattle.std.specs.Prelude.{◌≡◌, ◌≤◌, ◌+◌, ◌==◌}
use Rattle.g1_core.specs.Prelude.{ℕ, List, Option, Some, None, Contains}
use Rattle.g1_core.specs.Prelude.{card_of, Cells}
use Rattle.std.specs.FinSet as set
use Rattle.g1_core.specs.Table.{Table, Enters}

-- how many cards are recorded for the region
abbrev pub member_count : Table → ℕ → ℕ
member_count t region = set.len (set.retain t.recorded (λ pair. pair.1 == region))

-- The answer is the least slot on the cards that lies outside the region and refers into it, or
-- there is none.
abbrev pub IsLeastOn : Table → List ℕ → ℕ → Option ℕ → Type 0
IsLeastOn t cards region None =
    (slot : ℕ) → Contains cards (card_of t.layout slot) → Enters t slot region → ⊥
IsLeastOn t cards region (Some slot) =
    Enters t slot region × ((other : ℕ) → Contains cards (card_of t.layout other)
    → Enters t other region → slot ≤ other)

-- At most `most` slots were read, and nothing else of the heap has changed.
pub record AreRead (old new : Cells) (most : ℕ) : Type 0 where
  pub cells : new ≡ record {
    layout = old.layout;
    refs = old.refs;
    marks = old.marks;
    reads = new.reads;
  }
  pub grown : old.reads ≤ new.reads
  pub few : new.reads ≤ old.reads + most
