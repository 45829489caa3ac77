-- The calls that each command of a trace makes, and the line that is printed of them.
use Rattle.std.specs.Prelude.{◌≡◌, ◌≤◌, ◌⊎◌, ◌||◌, ◌∷◌, ◌++◌, if◌then◌else◌}
use Rattle.g1_replay.specs.Prelude.{ℕ, Bool, true}
use Rattle.g1_replay.specs.Prelude.{false, List, [], All, flat_map, sum_by, length, Kind, Logged}
use Rattle.g1_replay.specs.Prelude.{Fill, No, Full, Helped, Entry, Reply, Settings, round_size}
use Rattle.g1_replay.specs.Prelude.{Command, stored_line, flushed_line, refined_line, worked_line}
use Rattle.g1_replay.specs.Prelude.{call_line, FlushReply}
use Rattle.g1_core.specs.declared.entry.Call.{Call}
use Rattle.g1_core.specs.declared.entry.Call.TheVariants.{Store, Refine}
use Rattle.g1_core.specs.declared.entry.Reply.TheVariants as reply
use Rattle.g1_trace.specs.declared.command.Command.TheVariants as command

-- What is printed of a command and stands in none of its calls: how many cards a flush moved, the
-- length of the queue that a round saw last, and whether a help, a later call of a round or its
-- growth was refused.
pub record Shown : Type 0 where
  pub cards : ℕ
  pub left : ℕ
  pub refused : Bool

-- nothing but what the calls hold
abbrev pub nothing_shown : Shown
nothing_shown = record { cards = 0; left = 0; refused = false }

-- the calls that a command made, and what else it shows
pub record Piece : Type 0 where
  pub entries : List Entry
  pub shown : Shown

-- a piece that shows nothing but its calls
abbrev pub plain_piece : List Entry → Piece
plain_piece entries = record { entries = entries; shown = nothing_shown }

-- The entry is this call by this caller.
abbrev pub IsCallBy : ℕ → Call → Entry → Type 0
IsCallBy caller call e = (e.caller ≡ caller) × (e.call ≡ call)

-- What became of the log in a store's own entry: only a logged card fills it, and a help is an
-- entry of its own.
abbrev pub IsOwnFill : Kind → Fill → Type 0
IsOwnFill kind No = Unit {0}
IsOwnFill kind Full = kind ≡ Logged
IsOwnFill kind Helped = ⊥

-- A store's own entry refines nothing and is not short.
abbrev pub IsOwnReply : Reply → List ℕ → Type 0
IsOwnReply (reply.Stored kind fill short) refined =
    IsOwnFill kind fill × (short ≡ false) × (refined ≡ [])
IsOwnReply _ refined = ⊥

abbrev pub IsOwnStore : ℕ → Call → Entry → Type 0
IsOwnStore caller call e = IsCallBy caller call e × IsOwnReply e.reply e.refined

-- The reply of a store that filled its log.
abbrev pub FillsLog : Reply → Type 0
FillsLog (reply.Stored Logged Full short) = Unit {0}
FillsLog _ = ⊥

-- The reply of a refinement of one buffer, which was taken, unless the reply is short.
abbrev pub IsOfBuffer : Reply → Type 0
IsOfBuffer (reply.Refined taken hot skipped left short) = taken ≡ (if short then 0 else 1)
IsOfBuffer _ = ⊥

-- The reply of a refinement where no buffer was there.
abbrev pub IsOfNone : Reply → List ℕ → Type 0
IsOfNone (reply.Refined taken hot skipped left short) refined =
    (taken ≡ 0) × (hot ≡ 0) × (skipped ≡ 0) × (short ≡ false) × (refined ≡ [])
IsOfNone _ refined = ⊥

-- The entry is a refinement of one buffer by this caller.
abbrev pub IsRefinementBy : ℕ → Entry → Type 0
IsRefinementBy caller e = IsCallBy caller Refine e × IsOfBuffer e.reply

-- The calls that a command makes: a store helps only where it filled its log, a flush has an entry
-- only where it helps, and a round has one for each buffer that it takes.
abbrev pub IsPieceOf : Command → List Entry → Type 0
IsPieceOf (command.Store mutator slot target) (e ∷ []) = IsOwnStore mutator (Store slot target) e
IsPieceOf (command.Store mutator slot target) (e ∷ help ∷ []) =
    IsOwnStore mutator (Store slot target) e × FillsLog e.reply × IsRefinementBy mutator help
IsPieceOf (command.Flush mutator) [] = Unit {0}
IsPieceOf (command.Flush mutator) (help ∷ []) = IsRefinementBy mutator help
IsPieceOf command.Work entries = All (IsRefinementBy 0) entries
IsPieceOf command.Refine (e ∷ []) =
    IsCallBy 0 Refine e × (IsOfBuffer e.reply ⊎ IsOfNone e.reply e.refined)
IsPieceOf (command.Call call) (e ∷ []) = IsCallBy 0 call e
IsPieceOf _ _ = ⊥

-- What these settings allow: a round makes no more calls than one that begins at their `start` and
-- sees no more completed buffers than their queue holds.
abbrev pub IsSetBy : Settings → Command → List Entry → Type 0
IsSetBy s command.Work entries =
    (seen : ℕ) × (seen ≤ s.limit) × (length entries ≤ round_size s.start seen)
IsSetBy s c entries = Unit {0}

abbrev pub one_call_line : List Entry → List ℕ
one_call_line (e ∷ []) = call_line e.call e.reply
one_call_line _ = []

-- one refinement by its reply and refined cards, and nothing for another reply
abbrev pub lone_refine_line : Reply → List ℕ → List ℕ
lone_refine_line (reply.Refined taken hot skipped left short) cards =
    refined_line taken (length cards) hot skipped short
lone_refine_line _ _ = []

abbrev pub refine_line : List Entry → List ℕ
refine_line (e ∷ []) = lone_refine_line e.reply e.refined
refine_line _ = []

-- how many buffers a refinement took, how many of their cards were hot and how many it skipped, and
-- whether it is short; nothing of another reply
abbrev pub counts_in : Reply → ℕ × ℕ × ℕ × Bool
counts_in (reply.Refined taken hot skipped left short) = (taken, hot, skipped, short)
counts_in _ = (0, 0, 0, false)

abbrev pub is_any_short : List Entry → Bool
is_any_short [] = false
is_any_short (e ∷ entries) = (counts_in e.reply).3 || is_any_short entries

-- a store that did not help; a help was refused only where the log was filled
abbrev pub lone_store_line : (refused : Bool) → Reply → List ℕ → List ℕ
lone_store_line false (reply.Stored kind fill short) cards =
    stored_line kind fill (length cards) short
lone_store_line true (reply.Stored Logged Full short) cards = stored_line Logged Helped 0 true
lone_store_line true (reply.Stored kind fill short) cards =
    stored_line kind fill (length cards) short
lone_store_line _ _ _ = []

abbrev pub store_line : List Entry → Shown → List ℕ
store_line (e ∷ []) shown = lone_store_line shown.refused e.reply e.refined
store_line (e ∷ help ∷ []) shown =
    stored_line Logged Helped (length help.refined) (counts_in help.reply).3
store_line _ _ = []

-- a flush that did not help, or whose help was refused
abbrev pub lone_flush_line : (cards : ℕ) → (refused : Bool) → List ℕ
lone_flush_line cards false = flushed_line cards Full 0 false
lone_flush_line cards true = flushed_line cards Helped 0 true

abbrev pub flush_line : List Entry → Shown → List ℕ
flush_line [] shown = lone_flush_line shown.cards shown.refused
flush_line (help ∷ []) shown =
    flushed_line shown.cards Helped (length help.refined) (counts_in help.reply).3
flush_line _ _ = []

-- the sums over the calls of a round
abbrev pub work_line : List Entry → Shown → List ℕ
work_line entries shown =
    worked_line (sum_by (λ e. (counts_in e.reply).0) entries)
    (sum_by (λ e. length e.refined) entries) (sum_by (λ e. (counts_in e.reply).1) entries)
    (sum_by (λ e. (counts_in e.reply).2) entries) shown.left (is_any_short entries || shown.refused)

-- the output line of a command, with its line feed
abbrev pub line_of : Command → Piece → List ℕ
line_of (command.Store mutator slot target) p = store_line p.entries p.shown
line_of (command.Flush mutator) p = flush_line p.entries p.shown
line_of command.Refine p = refine_line p.entries
line_of command.Work p = work_line p.entries p.shown
line_of (command.Call call) p = one_call_line p.entries

-- The calls are a piece of the command, and this is its line.
pub record IsLineOf (c : Command) (p : Piece) (text : List ℕ) : Type 0 where
  pub piece : IsPieceOf c p.entries
  pub line : text ≡ line_of c p

-- one piece a command
abbrev pub Walks : List Command → List Piece → Type 0
Walks [] [] = Unit {0}
Walks (c ∷ commands) (p ∷ pieces) = IsPieceOf c p.entries × Walks commands pieces
Walks _ _ = ⊥

-- so it is with each command
abbrev pub AreSetBy : Settings → List Command → List Piece → Type 0
AreSetBy s [] pieces = Unit {0}
AreSetBy s (c ∷ commands) [] = Unit {0}
AreSetBy s (c ∷ commands) (p ∷ pieces) = IsSetBy s c p.entries × AreSetBy s commands pieces

abbrev pub entries_of : List Piece → List Entry
entries_of pieces = flat_map (λ p. p.entries) pieces

-- one line a command
abbrev pub lines_of : List Command → List Piece → List ℕ
lines_of [] pieces = []
lines_of (c ∷ commands) [] = []
lines_of (c ∷ commands) (p ∷ pieces) = line_of c p ++ lines_of commands pieces

-- the line of a flush, by what its step answers
abbrev pub flush_text : FlushReply → List ℕ
flush_text r = flushed_line r.cards r.fill (length r.refined) r.short
