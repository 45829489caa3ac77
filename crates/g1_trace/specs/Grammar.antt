-- What a line of a trace means: the header, or a command.
use Rattle.std.specs.Prelude.{◌<◌, ◌*◌, ◌∷◌, ◌==◌, ◌&&◌, if◌then◌else◌}
use Rattle.g1_trace.specs.Prelude.{ℕ, List, [], nat_lt, Bool, true, false, Result, Ok, Err, Option}
use Rattle.g1_trace.specs.Prelude.{Some, None, IfSome, codes, bytes_eq, Shape, slot_count, Call}
use Rattle.g1_core.specs.Run as run
use Rattle.g1_core.specs.declared.entry.Call.TheVariants as calls
use Rattle.g1_core.specs.declared.entry.Call.TheVariants.{Target, Pending, Members, Status, Drain}
use Rattle.g1_core.specs.declared.entry.Call.TheVariants.{Clear, Redirect}
use Rattle.g1_trace.specs.declared.command.Command.{Command}
use Rattle.g1_trace.specs.declared.command.Command.TheVariants as command
use Rattle.g1_trace.specs.declared.command.Command.TheVariants.{Store, Flush, Refine, Work}
use Rattle.g1_trace.specs.declared.mode.Mode.{Mode}
use Rattle.g1_trace.specs.declared.mode.Mode.TheVariants.{Run, Crew, Race}
use Rattle.g1_trace.specs.declared.dialect.Dialect.{Dialect}
use Rattle.g1_trace.specs.declared.fault.TraceFault.{TraceFault}
use Rattle.g1_trace.specs.declared.fault.TraceFault.TheVariants.{NoHeader, NoCommand, BadHeap}
use Rattle.g1_trace.specs.declared.fault.TraceFault.TheVariants.{Twice}
use Rattle.g1_trace.specs.Words.{words_from, is_remark_word, ◌>>=◌}
use Rattle.g1_trace.specs.Places.{read_none, read_one, read_two, read_three, mutator_place}
use Rattle.g1_trace.specs.Places.{slot_place, target_place, card_place, region_place, number_place}

-- two regions, which differ
abbrev pub redirect_of : ℕ → ℕ → Result Call TraceFault
redirect_of a b = if a == b then Err Twice else Ok (Redirect a b)

-- whether a trace in this mode may only store and flush
abbrev pub is_script : Mode → Bool
is_script Run = false
is_script Crew = true
is_script Race = true

-- whether a trace in this mode may only store
abbrev pub has_stores_alone : Mode → Bool
has_stores_alone Run = false
has_stores_alone Crew = false
has_stores_alone Race = true

-- the commands of one call: for each first word, the places behind it and what it asks for
unfoldable pub read_call : Shape → List ℕ → List (List ℕ) → Result Call TraceFault
read_call l name words =
    if bytes_eq name (codes "target") then (read_one (slot_place l) words >>= λ v. Ok (Target v))
    else if bytes_eq name (codes "pending")
    then (read_one (card_place l) words >>= λ v. Ok (Pending v))
    else if bytes_eq name (codes "members")
    then (read_one (region_place l) words >>= λ v. Ok (Members v))
    else if bytes_eq name (codes "status") then (read_none words >>= λ _. Ok Status)
    else if bytes_eq name (codes "drain")
    then (read_one (region_place l) words >>= λ v. Ok (Drain v))
    else if bytes_eq name (codes "clear")
    then (read_one (region_place l) words >>= λ v. Ok (Clear v))
    else if bytes_eq name (codes "redirect")
    then (read_two (region_place l) (region_place l) words >>= λ v. redirect_of v.0 v.1)
    else Err NoCommand

-- the commands
unfoldable pub read_named : Shape → Dialect → List ℕ → List (List ℕ) → Result Command TraceFault
read_named l d name words =
    if bytes_eq name (codes "store")
    then (read_three (mutator_place d.mutators) (slot_place l) (target_place l) words >>= λ v.
    Ok (Store v.0 v.1 v.2))
    else if has_stores_alone d.mode then Err NoCommand
    else if bytes_eq name (codes "flush")
    then (read_one (mutator_place d.mutators) words >>= λ v. Ok (Flush v))
    else if is_script d.mode then Err NoCommand
    else if bytes_eq name (codes "refine") then (read_none words >>= λ _. Ok Refine)
    else if bytes_eq name (codes "work") then (read_none words >>= λ _. Ok Work)
    else (read_call l name words >>= λ c. Ok (command.Call c))

-- a line is empty, a remark or a command
abbrev pub command_words : Shape → Dialect → List (List ℕ) → Result (Option Command) TraceFault
command_words l d [] = Ok None
command_words l d (name ∷ words) = if is_remark_word name then Ok None else (do
  c ← read_named l d name words
  Ok (Some c))

unfoldable pub read_command : Shape → Dialect → List ℕ → Result (Option Command) TraceFault
read_command l d line = command_words l d (words_from [] line)

-- the counts of a heap are within their limits
abbrev pub is_heap : ℕ → ℕ → ℕ → Bool
is_heap r c s =
    nat_lt 0 r && nat_lt r 257 && nat_lt 0 c && nat_lt c 257 && nat_lt 0 s && nat_lt s 65 && nat_lt
    (r * c * s) 1048577

abbrev pub heap_of_counts : ℕ → ℕ → ℕ → Result Shape TraceFault
heap_of_counts r c s =
    if is_heap r c s then Ok (record { regions = r; cards = c; slots = s }) else Err BadHeap

-- the header: `heap` and three counts
unfoldable pub read_opening : List ℕ → List (List ℕ) → Result Shape TraceFault
read_opening name words =
    if bytes_eq name (codes "heap")
    then (read_three number_place number_place number_place words >>= λ v.
    heap_of_counts v.0 v.1 v.2)
    else Err NoHeader

-- a line before the header is empty, a remark or the header
abbrev pub header_words : List (List ℕ) → Result (Option Shape) TraceFault
header_words [] = Ok None
header_words (name ∷ words) = if is_remark_word name then Ok None else (do
  l ← read_opening name words
  Ok (Some l))

unfoldable pub read_header : List ℕ → Result (Option Shape) TraceFault
read_header line = header_words (words_from [] line)

-- the call is a question, a drain, a clear or a redirect, and its numbers are those of the heap
abbrev pub IsCommandCall : Shape → Call → Type 0
IsCommandCall l (calls.Store slot target) = ⊥
IsCommandCall l calls.Refine = ⊥
IsCommandCall l c = run.IsCallOf l c

-- the command's numbers are those of mutators and of the heap
abbrev pub IsCommandOf : Shape → ℕ → Command → Type 0
IsCommandOf l m (Store mutator slot target) =
    (mutator < m) × (slot < slot_count l) × IfSome target (λ t. t < slot_count l)
IsCommandOf l m (Flush mutator) = mutator < m
IsCommandOf l m Refine = Unit {0}
IsCommandOf l m Work = Unit {0}
IsCommandOf l m (command.Call call) = IsCommandCall l call
