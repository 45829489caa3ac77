-- The output lines, each with its line feed: by their numbers, then by what the calls answer.
use Rattle.std.specs.Prelude.{◌∷◌, ◌++◌, if◌then◌else◌, ◌==◌, ◌&&◌}
use Rattle.g1_trace.specs.Prelude.{ℕ, Bool, true, false, List, [], Option, Some, None, codes}
use Rattle.g1_trace.specs.Prelude.{decimal, length, not, Call}
use Rattle.g1_layout.specs.declared.kind.Kind.{Kind}
use Rattle.g1_layout.specs.declared.kind.Kind.TheVariants.{SameRegion, Null, AlreadyDirty, Logged}
use Rattle.g1_core.specs.declared.reply.Fill.{Fill}
use Rattle.g1_core.specs.declared.reply.Fill.TheVariants.{No, Full, Helped}
use Rattle.g1_core.specs.declared.reply.StoreReply.{StoreReply}
use Rattle.g1_core.specs.declared.reply.RefineReply.{RefineReply}
use Rattle.g1_core.specs.declared.reply.Status.{Status}
use Rattle.g1_core.specs.declared.entry.Call.TheVariants as call
use Rattle.g1_core.specs.declared.entry.Reply.{Reply}
use Rattle.g1_core.specs.declared.entry.Reply.TheVariants as reply
use Rattle.g1_core.specs.declared.reply.ClearReply.{ClearReply}
use Rattle.g1_core.specs.declared.reply.ClearReply.TheVariants as clear_reply
use Rattle.g1_trace.specs.declared.fault.TraceFault.{TraceFault}
use Rattle.g1_trace.specs.declared.fault.TraceFault.TheVariants.{TooLong, Cut, NoHeader, NoCommand}
use Rattle.g1_trace.specs.declared.fault.TraceFault.TheVariants.{Words, NotNumber, BadHeap}
use Rattle.g1_trace.specs.declared.fault.TraceFault.TheVariants.{NoMutator, NoSlot, NoCard}
use Rattle.g1_trace.specs.declared.fault.TraceFault.TheVariants.{NoRegion, Twice}

-- words and the number behind them
abbrev pub with_number : List ℕ → ℕ → List ℕ
with_number words number = words ++ decimal number

-- a space and the number for each
abbrev pub list_text : List ℕ → List ℕ
list_text [] = []
list_text (n ∷ ns) = 32 ∷ decimal n ++ list_text ns

-- the end of the line of a reply that may be short
abbrev pub ending : Bool → List ℕ
ending short = if short then codes " short\n" else codes "\n"

-- a line of words alone, whose reply may be short
abbrev pub words_line : List ℕ → (short : Bool) → List ℕ
words_line words short = if short then words ++ codes " short\n" else words ++ codes "\n"

abbrev pub stored_line : Kind → Fill → (helped : ℕ) → (short : Bool) → List ℕ
stored_line SameRegion _ _ short = words_line (codes "same region") short
stored_line Null _ _ short = words_line (codes "null") short
stored_line AlreadyDirty _ _ short = words_line (codes "dirty") short
stored_line Logged No _ short = words_line (codes "logged") short
stored_line Logged Full _ short = words_line (codes "logged full") short
stored_line Logged Helped helped short = with_number (codes "logged helped ") helped ++ ending short

-- what a flush says behind its number of cards
abbrev pub flushed_end : Fill → (helped : ℕ) → (short : Bool) → List ℕ
flushed_end No _ short = ending short
flushed_end Full _ short = ending short
flushed_end Helped helped short = with_number (codes " helped ") helped ++ ending short

abbrev pub flushed_line : (cards : ℕ) → Fill → (helped : ℕ) → (short : Bool) → List ℕ
flushed_line cards fill helped short =
    with_number (codes "flushed ") cards ++ flushed_end fill helped short

abbrev pub turned_text : (refined hot skipped : ℕ) → List ℕ
turned_text refined hot skipped =
    with_number (codes "refined ") refined ++ with_number (codes " hot ") hot
    ++ with_number (codes " skipped ") skipped

abbrev pub refined_line : (taken refined hot skipped : ℕ) → (short : Bool) → List ℕ
refined_line taken refined hot skipped short =
    if (taken == 0) && not short then codes "idle\n"
    else turned_text refined hot skipped ++ ending short

abbrev pub worked_line : (taken refined hot skipped left : ℕ) → (short : Bool) → List ℕ
worked_line taken refined hot skipped left short =
    with_number (codes "worked ") taken ++ (codes " " ++ turned_text refined hot skipped)
    ++ with_number (codes " left ") left ++ ending short

abbrev pub target_text : Option ℕ → List ℕ
target_text None = codes "null\n"
target_text (Some slot) = with_number (codes "slot ") slot ++ codes "\n"

abbrev pub pending_text : Bool → List ℕ
pending_text true = codes "yes\n"
pending_text false = codes "no\n"

abbrev pub members_text : List ℕ → List ℕ
members_text cards = codes "cards" ++ list_text cards ++ codes "\n"

abbrev pub status_line : (pending recorded : ℕ) → List ℕ
status_line pending recorded =
    with_number (codes "status pending ") pending ++ with_number (codes " recorded ") recorded
    ++ codes "\n"

abbrev pub drained_line : List ℕ → List ℕ
drained_line cards = codes "drained" ++ list_text cards ++ codes "\n"

abbrev pub still_pending_line : ℕ → List ℕ
still_pending_line cards = with_number (codes "refused: ") cards ++ codes " pending\n"

abbrev pub still_referenced_line : ℕ → List ℕ
still_referenced_line slot =
    with_number (codes "refused: still referenced by slot ") slot ++ codes "\n"

abbrev pub redirected_line : ℕ → List ℕ
redirected_line slots = with_number (codes "redirected ") slots ++ codes "\n"

-- The lines of what the calls answer.
abbrev pub store_text : StoreReply → List ℕ
store_text r = stored_line r.kind r.fill (length r.refined) r.short

abbrev pub refine_text : RefineReply → List ℕ
refine_text r = refined_line r.taken (length r.refined) r.hot r.skipped r.short

abbrev pub work_text : RefineReply → List ℕ
work_text r = worked_line r.taken (length r.refined) r.hot r.skipped r.left r.short

abbrev pub status_text : Status → List ℕ
status_text s = status_line s.pending s.recorded

abbrev pub clear_text : ClearReply → List ℕ
clear_text clear_reply.Cleared = codes "cleared\n"
clear_text (clear_reply.Pending cards) = still_pending_line cards
clear_text (clear_reply.StillReferenced slot) = still_referenced_line slot

-- The line of a call by its reply: a question, a drain, a clear or a redirect. Nothing for another,
-- or for a reply that no such call has.
abbrev pub call_line : Call → Reply → List ℕ
call_line (call.Target slot) (reply.Target target) = target_text target
call_line (call.Pending card) (reply.Pending answer) = pending_text answer
call_line (call.Members region) (reply.Cards cards) = members_text cards
call_line call.Status (reply.Status status) = status_text status
call_line (call.Drain region) (reply.Cards cards) = drained_line cards
call_line (call.Drain region) reply.Short = codes "drained short\n"
call_line (call.Clear region) (reply.Clear answer) = clear_text answer
call_line (call.Redirect from to) (reply.Moved slots) = redirected_line slots
call_line (call.Redirect from to) reply.Short = codes "redirected short\n"
call_line _ _ = []

abbrev pub fault_text : TraceFault → List ℕ
fault_text TooLong = codes "too long"
fault_text Cut = codes "cut"
fault_text NoHeader = codes "heap expected"
fault_text NoCommand = codes "no such command"
fault_text Words = codes "wrong words"
fault_text NotNumber = codes "not a number"
fault_text BadHeap = codes "bad heap"
fault_text NoMutator = codes "no such mutator"
fault_text NoSlot = codes "no such slot"
fault_text NoCard = codes "no such card"
fault_text NoRegion = codes "no such region"
fault_text Twice = codes "same region twice"

abbrev pub fault_line : (number : ℕ) → TraceFault → List ℕ
fault_line number fault =
    with_number (codes "line ") number ++ codes ": " ++ fault_text fault ++ codes "\n"

-- how many stores there were
abbrev pub stores_text : ℕ → List ℕ
stores_text stores = with_number (codes "stores ") stores ++ codes "\n"

-- The lines of the other ends.
abbrev pub no_memory_line : List ℕ
no_memory_line = codes "no memory\n"

abbrev pub book_full_line : List ℕ
book_full_line = codes "book full\n"

abbrev pub no_thread_line : List ℕ
no_thread_line = codes "no thread\n"

abbrev pub read_failed_line : List ℕ
read_failed_line = codes "read failed\n"
