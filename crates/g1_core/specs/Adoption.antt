-- A core that is made of references, marked cards and pairs.
use Rattle.std.specs.Prelude.{◌≢◌, ◌<◌}
use Rattle.g1_core.specs.Prelude.{ℕ, Bool, true, false, List, Option, map, Shape}
use Rattle.g1_core.specs.Prelude.{card_count, region_of_card, Mark, Clean, Dirty, new_ring}
use Rattle.std.specs.FinSet as set
use Rattle.g1_core.specs.Table.{Table}
use Rattle.g1_core.specs.declared.config.Settings.{Settings}
use Rattle.g1_core.specs.Machine.{Machine, pending_of}

-- a marked card is dirty, and every other one is clean
abbrev pub mark_for : Bool → Mark
mark_for true = Dirty
mark_for false = Clean

abbrev pub marks_for : List Bool → List Mark
marks_for marked = map mark_for marked

-- the table with these references, marked cards and pairs
abbrev pub table_with : Shape → List (Option ℕ) → List Bool → List (ℕ × ℕ) → Table
table_with l refs marked pairs =
    record {
      layout = l;
      refs = refs;
      pending = pending_of (marks_for marked);
      recorded = set.from_list pairs;
    }

-- a core of this table, with nothing counted, nothing read and an empty ring
abbrev pub adopted_machine : Shape → Settings → List (Option ℕ) → List Bool → List (ℕ × ℕ) → Machine
adopted_machine l s refs marked pairs =
    record {
      state = record {
        table = table_with l refs marked pairs;
        ring = new_ring l s.hot s.ring;
      };
      settings = s;
      reads = 0;
    }

-- The pair is of a card and a region of the heap, and the card lies outside the region.
abbrev pub IsPairOf : Shape → ℕ × ℕ → Type 0
IsPairOf l pair =
    (pair.0 < card_count l) × (pair.1 < l.regions) × (region_of_card l pair.0 ≢ pair.1)
