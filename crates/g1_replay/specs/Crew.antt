-- What a crew writes: how many stores its run has, and the drains that end it.
use Rattle.std.specs.Prelude.{◌≡◌, ◌≢◌, ◌≤◌, ◌==◌, ◌⊎◌, ◌+◌, ◌++◌, if◌then◌else◌}
use Rattle.g1_replay.specs.Prelude.{ℕ, List, []}
use Rattle.g1_replay.specs.Prelude.{Result, Ok, Err, length, count_by, Shape, opening, Entry}
use Rattle.g1_replay.specs.Prelude.{IsPermitted, is_store, Refusal, Command, stores_text, Option}
use Rattle.g1_replay.specs.Prelude.{None, IfSome, IsErrAnd, Options, Stop, BookFull, NoMemory}
use Rattle.g1_replay.specs.Prelude.{NoThread}
use Rattle.g1_history.specs.declared.refusal.Refusal.TheVariants as refusal
use Rattle.g1_replay.specs.Drains.{drains}
use Rattle.g1_replay.specs.Pieces.{Piece, Walks, lines_of, entries_of}
use Rattle.g1_replay.specs.Scripted.{IsRunEnd, IsUnstarted}
use Rattle.g1_replay.specs.Scripts.{is_store_command, HasCome, IsScriptFor}

-- why a crew ends one of whose calls was refused, by a book of this many entries
abbrev pub crew_stop : (made history : ℕ) → Refusal → Stop
crew_stop made history refusal.BookFull = if made == history then BookFull else NoMemory
crew_stop made history refusal.NoMemory = NoMemory

-- the book that the jobs of a crew left: how many entries it may have, its heap, why the first of
-- the jobs that were refused was, and its entries
pub record CrewBook : Type 0 where
  pub history : ℕ
  pub layout : Shape
  pub refused : Option Refusal
  pub entries : List Entry

abbrev pub crew_book : ℕ → Shape → Option Refusal → List Entry → CrewBook
crew_book history layout refused entries =
    record { history = history; layout = layout; refused = refused; entries = entries }

-- A permitted run has these entries and then drains of the first regions, with none between; at the
-- whole end those of all regions. The run has at most `history` entries, and just as many where the
-- book is full. A job that was refused ends the crew, with nothing written.
--
-- Nothing was drained or written, since something stopped the crew; or no job was refused, and how
-- many stores the run has was, which is how many the commands have, and the lines of the drains
-- behind it.
pub record CrewDrained (b : CrewBook) (commands : List Command) (r : Result (Unit {0}) Stop)
    (text : List ℕ) : Type 0 where
  pub drained : ℕ
  pub pieces : List Piece
  pub ends : IsRunEnd r
  pub walked : Walks (drains drained) pieces
  pub permitted : IsPermitted (opening b.layout) (b.entries ++ entries_of pieces)
  pub within : length (b.entries ++ entries_of pieces) ≤ b.history
  pub full : r ≡ Err BookFull → length (b.entries ++ entries_of pieces) ≡ b.history
  pub all : r ≡ Ok tt → drained ≡ b.layout.regions
  pub stopped : IfSome b.refused (λ why.
      (r ≡ Err (crew_stop (length b.entries) b.history why)) × (text ≡ []))
  pub said : ((stop : Stop) × (r ≡ Err stop) × (drains drained ≡ []) × (text ≡ []))
      ⊎ ((r ≢ Err NoThread) × (b.refused ≡ None)
      × (count_by is_store b.entries ≡ count_by is_store_command commands)
      × (text ≡ stores_text (count_by is_store b.entries) ++ lines_of (drains drained) pieces))

-- No job was run, and nothing written.
abbrev pub IsUnrun : Result (Unit {0}) Stop → List Entry → List ℕ → Type 0
IsUnrun r entries text = IsErrAnd r IsUnstarted × (entries ≡ []) × (text ≡ [])

-- The entries are those of the callers of a crew, whose jobs came back from the scripts of these
-- commands: of each mutator just its stores, in their order, and refinements of its own help, and
-- of each refinement thread refinements alone.
abbrev pub AreOfCallers : Options → List Command → Option Refusal → List Entry → Type 0
AreOfCallers o commands refused entries =
    HasCome (IsScriptFor o commands) (o.mutators + o.refiners) o.config.limit refused entries

-- The scripts of these commands were run, and came to entries of a permitted run, which drains of
-- the first regions end. What stands before these drains is what the callers made.
pub record CrewRan (o : Options) (l : Shape) (commands : List Command)
    (r : Result (Unit {0}) Stop) (text : List ℕ) : Type 0 where
  pub refused : Option Refusal
  pub entries : List Entry
  pub made : IsUnrun r entries text ⊎ AreOfCallers o commands refused entries
  pub ended : CrewDrained (crew_book o.history l refused entries) commands r text
