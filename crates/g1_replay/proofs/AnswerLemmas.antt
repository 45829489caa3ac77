-- The calls of a command, and the line of what they answer.
use Rattle.std.specs.Prelude.{◌||◌, if◌then◌else◌, ◌∷◌, ◌≡◌, ◌≢◌, ◌≤◌, ◌⊎◌}
use Rattle.g1_replay.specs.{◌∙◌, cases_Bool, ap, sum_by, flat_map, All-head, All-tail, Kind, Logged, Fill, No, Entry, IsOwnFill, IsRefinementBy, counts_in, is_any_short, ℕ, List, [], Option, Some, None, true, false, inl, inr, refl, subst, sym, length, map, arith, Bool, Result, Ok, Err, IsSome, All, All-nil, All-cons, length-map, Full, Helped, StoreReply, RefineReply, Reply, store_entry, refine_entry, State, FlushReply, Refusal, History, CallMade, Stored, Refined, AreCalls, Grows, IsBookCall, Help, IsStored, help_calls, store_answer, flush_answer, nothing_flushed, filled, called, IsRound, Turn, round_calls, replies_of, round_size, Command, IsAnswered, IsCallPlayed, IfErr, MayStop, At, deeds_of, book_draining, Piece, IsSetBy, store_text, refine_text, work_text, call_line, Stop, played_one, HasPlayed, IsBookFull, Does, flush_text, plain_piece, IsOfBuffer, IsOfNone, IsLineOf, more_may_come}
use Rattle.g1_core.specs.declared.entry.Call.{Call}
use Rattle.g1_core.specs.Refinement.{IsRefined}
use Rattle.g1_log.specs.declared.parcel.Parcel.{Parcel}
use Rattle.g1_history.specs.declared.refusal.Refusal.TheVariants.{BookFull}
use Rattle.g1_history.specs.Asked.{MadeAsked, asked_entry}
use Rattle.g1_steps.specs.Made.{entries_made as calls_entries}
use Rattle.g1_steps.proofs.StepLemmas.{grows_none, grows_entered, calls_grow, round_entries}
use Rattle.g1_trace.specs.declared.command.Command.TheVariants as command
use Rattle.std.proofs.lemmas.List.Concat.{length-flat_map}
use Rattle.g1_log.proofs.Settles.{sum_by-map}
use Rattle.g1_replay.proofs.PlayingLemmas.{CameTo, does_said, said_stops}

-- The calls of a command were made and entered, and this is their text.
abbrev pub IsDone : History → History → Command → List ℕ → Type 0
IsDone old new c text = (p : Piece) × Grows old p.entries new × IsLineOf c p text × IsSetBy old.machine.settings c p.entries

-- A call was refused, and nothing was entered.
abbrev pub IsPlayRefused : History → History → Refusal → Type 0
IsPlayRefused old new refusal = Grows old [] new × (refusal ≡ BookFull → IsBookFull new)

-- A refinement of a buffer takes it, unless it is short.
abbrev Takes : RefineReply → Type 0
Takes r = r.taken ≡ (if r.short then 0 else 1)

own_fill : (kind : Kind) (fill : Fill) → fill ≢ Helped → (fill ≡ Full → kind ≡ Logged) → IsOwnFill kind fill
own_fill kind No own full = tt
own_fill kind Full own full = full refl
own_fill kind Helped own full = own refl

are_refinements : (replies : List RefineReply) → All Takes replies → All (IsRefinementBy 0) (map (refine_entry 0) replies)
are_refinements [] h = All-nil (IsRefinementBy 0)
are_refinements (r ∷ replies) h = All-cons (IsRefinementBy 0) (refine_entry 0 r) (map (refine_entry 0) replies) ((refl, refl), All-head Takes r replies h) (are_refinements replies (All-tail Takes r replies h))

none_short : (replies : List RefineReply) → All (λ (r : RefineReply). r.short ≡ false) replies → is_any_short (map (refine_entry 0) replies) ≡ false
none_short [] h = refl
none_short (r ∷ replies) h =
    let here : r.short ≡ false = All-head (λ (one : RefineReply). one.short ≡ false) r replies h in
    rw here (none_short replies (All-tail (λ (one : RefineReply). one.short ≡ false) r replies h))

short_in_all : (replies : List RefineReply) (short : Bool) → (short ≡ false → All (λ (r : RefineReply). r.short ≡ false) replies) → short ≡ is_any_short (map (refine_entry 0) replies) || short
short_in_all replies true h = elim (cases_Bool (is_any_short (map (refine_entry 0) replies))) [ inl t ↦ rw t refl | inr f ↦ rw f refl ]
short_in_all replies false h = sym (ap (λ b. b || false) (none_short replies (h refl)))

-- A round answers the sums of its calls, is short where one of them is, and shows how many buffers it saw last.
work_says : (replies : List RefineReply) (r : RefineReply) → r.taken ≡ sum_by (λ (one : RefineReply). one.taken) replies
    → r.refined ≡ flat_map (λ (one : RefineReply). one.refined) replies → r.hot ≡ sum_by (λ (one : RefineReply). one.hot) replies
    → r.skipped ≡ sum_by (λ (one : RefineReply). one.skipped) replies → (r.short ≡ false → All (λ (one : RefineReply). one.short ≡ false) replies) → All Takes replies
    → IsLineOf command.Work (record { entries = map (refine_entry 0) replies; shown = record { cards = 0; left = r.left; refused = r.short } }) (work_text r)
work_says replies r taken refined hot skipped whole takes =
    let a : r.taken ≡ sum_by (λ (e : Entry). (counts_in e.reply).0) (map (refine_entry 0) replies) = taken ∙ sym (sum_by-map (λ (e : Entry). (counts_in e.reply).0) (refine_entry 0) replies) in
    let b : length r.refined ≡ sum_by (λ (e : Entry). length e.refined) (map (refine_entry 0) replies) =
    ap (λ l. length l) refined ∙ length-flat_map (λ (one : RefineReply). one.refined) replies ∙ sym (sum_by-map (λ (e : Entry). length e.refined) (refine_entry 0) replies) in
    let d : r.hot ≡ sum_by (λ (e : Entry). (counts_in e.reply).1) (map (refine_entry 0) replies) = hot ∙ sym (sum_by-map (λ (e : Entry). (counts_in e.reply).1) (refine_entry 0) replies) in
    let s : r.skipped ≡ sum_by (λ (e : Entry). (counts_in e.reply).2) (map (refine_entry 0) replies) = skipped ∙ sym (sum_by-map (λ (e : Entry). (counts_in e.reply).2) (refine_entry 0) replies) in
    let f : r.short ≡ is_any_short (map (refine_entry 0) replies) || r.short = short_in_all replies r.short whole in
    record { piece = are_refinements replies takes; line = cc }

-- a help takes the buffer that it refines, unless it is short
abbrev HelpTakes : Help → Type 0
HelpTakes None = Unit {0}
HelpTakes (Some (Ok reply)) = Takes reply
HelpTakes (Some (Err e)) = Unit {0}

store_takes : (m : ℕ) (old new : History) (slot : ℕ) (target : Option ℕ) (first : StoreReply) (cards : List ℕ) (help : Help) → AreCalls (IsBookCall m) old (Stored slot target first ∷ help_calls cards help) new → HelpTakes help
store_takes m old new slot target first cards None h = tt
store_takes m old new slot target first cards (Some (Ok reply)) h = h.2.0.did.refined.taken
store_takes m old new slot target first cards (Some (Err e)) h = tt

flush_takes : (m : ℕ) (old new : History) (cards : List ℕ) (help : Help) → AreCalls (IsBookCall m) old (help_calls cards help) new → HelpTakes help
flush_takes m old new cards None h = tt
flush_takes m old new cards (Some (Ok reply)) h = h.0.did.refined.taken
flush_takes m old new cards (Some (Err e)) h = tt

turns_take : (m : ℕ) (old new : History) (turns : List Turn) (refused : Option Refusal) → AreCalls (IsBookCall m) old (round_calls turns refused) new → All Takes (replies_of turns)
turns_take m old new [] refused h = All-nil Takes
turns_take m old new (t ∷ []) None h = All-cons Takes t.reply [] h.0.did.refined.taken (All-nil Takes)
turns_take m old new (t ∷ []) (Some e) h = All-cons Takes t.reply [] h.1.0.did.refined.taken (All-nil Takes)
turns_take m old new (t ∷ u ∷ turns) None h = All-cons Takes t.reply (replies_of (u ∷ turns)) h.1.0.did.refined.taken (turns_take m h.0 new (u ∷ turns) None h.2)
turns_take m old new (t ∷ u ∷ turns) (Some e) h = All-cons Takes t.reply (replies_of (u ∷ turns)) h.1.0.did.refined.taken (turns_take m h.0 new (u ∷ turns) (Some e) h.2)

-- a store whose own answer was the first
store_calls : (old new : History) (m slot : ℕ) (target : Option ℕ) (cards : List ℕ) (first : StoreReply) (help : Help) → Grows old (store_entry m slot target first ∷ calls_entries m (help_calls cards help)) new → HelpTakes help
    → (first.refined ≡ []) × (first.short ≡ false) → first.fill ≢ Helped → (first.fill ≡ Full → first ≡ filled) → (IsSome help → first.fill ≡ Full) → IsDone old new (command.Store m slot target) (store_text (store_answer first help))
store_calls old new m slot target cards first None g takes plain own full helps = (plain_piece (store_entry m slot target first ∷ []), g, record { piece = ((refl, refl), (own_fill first.kind first.fill own (λ e. ap (λ (r : StoreReply). r.kind) (full e)), plain.1, plain.0)); line = refl }, tt)
store_calls old new m slot target cards first (Some (Ok reply)) g takes plain own full helps =
    let is = full (helps refl) in
    subst (λ (r : StoreReply). IsDone old new (command.Store m slot target) (store_text (store_answer r (Some (Ok reply))))) (sym is)
    (plain_piece (store_entry m slot target filled ∷ refine_entry m reply ∷ []), subst (λ (r : StoreReply). Grows old (store_entry m slot target r ∷ refine_entry m reply ∷ []) new) is g, record { piece = (((refl, refl), (refl, refl, refl)), tt, ((refl, refl), takes)); line = refl }, tt)
store_calls old new m slot target cards first (Some (Err e)) g takes plain own full helps =
    let is = full (helps refl) in
    subst (λ (r : StoreReply). IsDone old new (command.Store m slot target) (store_text (store_answer r (Some (Err e))))) (sym is)
    (record { entries = store_entry m slot target filled ∷ []; shown = record { cards = 0; left = 0; refused = true } }, subst (λ (r : StoreReply). Grows old (store_entry m slot target r ∷ []) new) is g, record { piece = ((refl, refl), (refl, refl, refl)); line = refl }, tt)

pub store_made : {S : Type 0} (did : S → List CallMade → S → Type 0) (s t : S) (old new : History) (m slot : ℕ) (target : Option ℕ) (cards : List ℕ) (reply : StoreReply) (h : IsStored did s slot target cards reply t)
    → AreCalls (IsBookCall m) old (Stored slot target h.first ∷ help_calls cards h.help) new → IsDone old new (command.Store m slot target) (store_text reply)
store_made did s t old new m slot target cards reply h made =
    subst (λ (r : StoreReply). IsDone old new (command.Store m slot target) (store_text r)) (sym h.answer)
    (store_calls old new m slot target cards h.first h.help (calls_grow m old new (Stored slot target h.first ∷ help_calls cards h.help) made) (store_takes m old new slot target h.first cards h.help made) h.plain h.own h.full h.helps)

-- a flush of a log with cards
flush_calls : (old new : History) (m n : ℕ) (cards : List ℕ) (help : Help) → Grows old (calls_entries m (help_calls cards help)) new → HelpTakes help → IsDone old new (command.Flush m) (flush_text (flush_answer n help))
flush_calls old new m n cards None g takes = (record { entries = []; shown = record { cards = n; left = 0; refused = false } }, g, record { piece = tt; line = refl }, tt)
flush_calls old new m n cards (Some (Ok reply)) g takes = (record { entries = refine_entry m reply ∷ []; shown = record { cards = n; left = 0; refused = false } }, g, record { piece = ((refl, refl), takes); line = refl }, tt)
flush_calls old new m n cards (Some (Err e)) g takes = (record { entries = []; shown = record { cards = n; left = 0; refused = true } }, g, record { piece = tt; line = refl }, tt)

pub flush_nothing : (old new : History) (m : ℕ) (reply : FlushReply) → reply ≡ nothing_flushed → new ≡ old → IsDone old new (command.Flush m) (flush_text reply)
flush_nothing old new m reply is same =
    let g : Grows old [] new = subst (λ (b : History). Grows old [] b) (sym same) (grows_none old) in
    subst (λ (r : FlushReply). IsDone old new (command.Flush m) (flush_text r)) (sym is) (plain_piece [], g, record { piece = tt; line = refl }, tt)

pub flush_made : (old new : History) (m : ℕ) (cards : List ℕ) (reply : FlushReply) (help : Help) → AreCalls (IsBookCall m) old (help_calls cards help) new → reply ≡ flush_answer (length cards) help → IsDone old new (command.Flush m) (flush_text reply)
flush_made old new m cards reply help h is =
    subst (λ (r : FlushReply). IsDone old new (command.Flush m) (flush_text r)) (sym is) (flush_calls old new m (length cards) cards help (calls_grow m old new (help_calls cards help) h) (flush_takes m old new cards help h))

-- a refinement of what the line gave
refine_finds : (old new : State) (buffer : Option (List ℕ)) (reply : RefineReply) → IsRefined old buffer reply new → IsOfBuffer (refine_entry 0 reply).reply ⊎ IsOfNone (refine_entry 0 reply).reply reply.refined
refine_finds old new None reply h = inr (h.0.taken, h.0.hot, h.0.skipped, h.0.short, h.0.refined)
refine_finds old new (Some cards) reply h = inl h.taken

pub refine_made : (old new : History) (buffer : Option (List ℕ)) (reply : RefineReply) → AreCalls (IsBookCall 0) old (Refined buffer (called reply) ∷ []) new → IsDone old new command.Refine (refine_text reply)
refine_made old new buffer reply h =
    (plain_piece (refine_entry 0 (called reply) ∷ []), calls_grow 0 old new (Refined buffer (called reply) ∷ []) h, record { piece = ((refl, refl), refine_finds old.machine.state new.machine.state buffer (called reply) h.0.did.refined); line = refl }, tt)

rounds_within : (turns : List Turn) (most size : ℕ) → length turns ≤ most → most ≡ size → length (map (refine_entry 0) (replies_of turns)) ≤ size
rounds_within turns most size h is =
    let a : length (map (refine_entry 0) (replies_of turns)) ≡ length (replies_of turns) = length-map (replies_of turns) (refine_entry 0) in
    let b : length (replies_of turns) ≡ length turns = length-map turns (λ (t : Turn). t.reply) in
    omega (arith, a, b, h, is)

pub work_made : {S : Type 0} (did : S → List CallMade → S → Type 0) (s : S) (before : List Parcel) (most : ℕ) (reply : RefineReply) (after : List Parcel) (t : S) (r : IsRound did s before most reply after t) (old new : History)
    (seen : ℕ) → seen ≤ old.machine.settings.limit → most ≡ round_size old.machine.settings.start seen → AreCalls (IsBookCall 0) old (round_calls r.turns r.refused) new → IsDone old new command.Work (work_text reply)
work_made did s before most reply after t r old new seen within is h = (
  record { entries = map (refine_entry 0) (replies_of r.turns); shown = record { cards = 0; left = reply.left; refused = reply.short } },
  subst (λ es. Grows old es new) (round_entries 0 r.turns r.refused) (calls_grow 0 old new (round_calls r.turns r.refused) h),
  work_says (replies_of r.turns) reply r.sums.taken r.sums.refined r.sums.hot r.sums.skipped r.sums.whole (turns_take 0 old new r.turns r.refused h),
  (seen, within, rounds_within r.turns most (round_size old.machine.settings.start seen) r.within is),
)

-- one call of the first caller, and the line of its reply
pub call_says : (old new : History) (call : Call) (reply : Reply) → MadeAsked true old 0 call reply new → IsDone old new (command.Call call) (call_line call reply)
call_says old new call reply p = let e = asked_entry 0 call reply p.0 in (plain_piece (e ∷ []), grows_entered old e new p.1.entered, record { piece = (refl, refl); line = refl }, tt)

-- a call that was refused left the book, and its history was full if that is why
pub call_refused : (old new : History) (refusal : Refusal) → new ≡ old → (refusal ≡ BookFull → length old.entries ≡ old.limit) → IsPlayRefused old new refusal
call_refused old new refusal same full = subst (λ (b : History). IsPlayRefused old b refusal) (sym same) (grows_none old, full)

pub played_by : (old new : History) (c : Command) (text : List ℕ) → IsDone old new c text → HasPlayed old (c ∷ []) text new
played_by old new c text p = subst (λ (t : List ℕ). HasPlayed old (c ∷ []) t new) (sym p.2.line) (played_one old new c p.0 p.2.piece p.3 p.1)

pub nothing_played : (old new : History) → Grows old [] new → HasPlayed old [] [] new
nothing_played old new g = record { pieces = []; walked = tt; set = tt; grows = g; said = refl }

-- a call that was asked of a book
pub asked_plays : (call : Call) (old new : At History) (r : Result (Unit {0}) Stop) → IsCallPlayed call old new r → Does (deeds_of book_draining) (command.Call call ∷ []) old new (more_may_come r)
asked_plays call old new r p = does_said (deeds_of book_draining) (command.Call call) old new p.0 r (came p.0 p.1) p.2
  where
    came : (said : Result (List ℕ) Refusal) → IsAnswered call old.state new.state said → CameTo (deeds_of book_draining) (command.Call call) old.state said new.state
    came (Ok text) a = played_by old.state new.state (command.Call call) text (subst (IsDone old.state new.state (command.Call call)) (sym a.2) (call_says old.state new.state call a.0 a.1.made))
    came (Err refusal) a = let refused = call_refused old.state new.state refusal a.err.1 (λ e. a.err.0.0 (ap Err e)) in (nothing_played old.state new.state refused.0, refused.1)

pub asked_stops : (call : Call) (old new : At History) (r : Result (Unit {0}) Stop) → IsCallPlayed call old new r → IfErr r MayStop
asked_stops call old new r p = said_stops p.0 old.written new.written r p.2
