-- The records as contracts see them.
use Rattle.std.specs.Prelude.{ℕ, List, [], ◌∷◌, ◌++◌}
use Rattle.atomic_table.specs.Seated.{TableId}
use Rattle.g1_core.specs.declared.entry.Entry.{Entry}

-- the entries of a history, and how many callers were made
pub record Recorded : Type 0 where
  pub table : TableId
  pub entries : List Entry
  pub callers : ℕ

-- the number of a caller, and the entries that it made
pub record OwnRecord : Type 0 where
  pub table : TableId
  pub number : ℕ
  pub entries : List Entry

abbrev pub recorded : TableId → List Entry → ℕ → Recorded
recorded table entries callers = record { table = table; entries = entries; callers = callers }

abbrev pub own_record : TableId → ℕ → List Entry → OwnRecord
own_record table number entries = record { table = table; number = number; entries = entries }

-- with an entry more
abbrev pub gained : Recorded → Entry → Recorded
gained h e = recorded h.table (h.entries ++ e ∷ []) h.callers

abbrev pub made : OwnRecord → Entry → OwnRecord
made r e = own_record r.table r.number (r.entries ++ e ∷ [])

-- no records at all
abbrev pub no_table : TableId
no_table = record {
  words = 0;
  slots = 0;
  views_name = 0;
  atom = 0;
  block = 0;
  offset = 0;
  slot_names = [];
}
