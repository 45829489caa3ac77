-- What a store does to the core and to the lent log.
use Rattle.g1_core.specs.Prelude.{ℕ, List, [], Option, Some, None, false, Kind, SameRegion, Null}
use Rattle.g1_core.specs.Prelude.{AlreadyDirty, Logged, Cards, pushed, handed}
use Rattle.g1_core.specs.declared.reply.Fill.{Fill}
use Rattle.g1_core.specs.declared.reply.Fill.TheVariants.{No, Full}
use Rattle.g1_core.specs.declared.reply.StoreReply.{StoreReply}
use Rattle.g1_core.specs.Machine.{Machine}
use Rattle.g1_core.specs.Run.{stored}

-- the card of a store of this kind, where it is logged
abbrev pub logged_card : Kind → ℕ → Option ℕ
logged_card Logged card = Some card
logged_card Null card = None
logged_card SameRegion card = None
logged_card AlreadyDirty card = None

-- A logged store pushes its card; every other store leaves the log alone.
abbrev pub logged : Kind → Cards → ℕ → Cards
logged Logged log card = pushed log card
logged SameRegion log card = log
logged Null log card = log
logged AlreadyDirty log card = log

-- the buffer that is handed out: where a logged store filled the log
abbrev pub buffer_of : Kind → Cards → ℕ → Option (List ℕ)
buffer_of Logged log card = handed log card
buffer_of SameRegion log card = None
buffer_of Null log card = None
buffer_of AlreadyDirty log card = None

-- full exactly where a buffer is handed out
abbrev pub fill_of : Option (List ℕ) → Fill
fill_of None = No
fill_of (Some _) = Full

-- the reply of a store of this kind that hands out no buffer
abbrev pub unfilled : Kind → StoreReply
unfilled kind = record { kind = kind; fill = No; refined = []; short = false }

-- the machine after a store: the table gets its reference and, where it is logged, its pending
-- card; nothing else changes
abbrev pub stored_machine : Machine → ℕ → Option ℕ → Machine
stored_machine m slot target =
    record {
      state = record { table = stored m.state.table slot target; ring = m.state.ring };
      settings = m.settings;
      reads = m.reads;
    }
