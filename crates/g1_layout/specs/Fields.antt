-- What the fields of a layout keep.
use Rattle.std.specs.Prelude.{◌≡◌, ◌*◌}
use Rattle.g1_layout.specs.declared.layout.Layout.TheInside.{Inside}
use Rattle.g1_layout.specs.Shape.{IsShape}

-- the counts are within the limits, the slots a region are those of its cards, and those of the
-- heap are those of its regions
pub record AreFields (a : Inside) : Type 0 where
  pub shape : IsShape (record { regions = a.regions; cards = a.cards; slots = a.slots })
  pub region_slots : a.region_slots ≡ a.cards * a.slots
  pub heap_slots : a.heap_slots ≡ a.regions * a.cards * a.slots
