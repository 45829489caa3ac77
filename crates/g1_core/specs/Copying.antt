-- What a copy of a range of slots does to the plain table.
use Rattle.std.specs.Prelude.{◌+◌}
use Rattle.g1_core.specs.Prelude.{ℕ, zero, suc}
use Rattle.g1_core.specs.Table.{Table, target_of}
use Rattle.g1_core.specs.Run.{stored}

-- the old targets of as many slots, from one on, are stored to those from another on
abbrev pub copied : ℕ → ℕ → ℕ → Table → Table
copied from to zero table = table
copied from to (suc count) table =
    stored (copied from to count table) (to + count) (target_of table (from + count))
