-- What the steps of commands come to: the calls that were entered, their line, and what may be played next.
use Rattle.std.specs.Prelude.{◌≡◌, ◌≤◌, ◌∷◌, ◌++◌}
use Rattle.g1_replay.specs.{◌∙◌, ℕ, List, [], Bool, true, false, refl, sym, ap, subst, append-nil, arith, length, length-set, set, inl, inr, IfErr, MayStop, IsSaid, stop_of, Grows, grows_none, Mutator, Result, Ok, Err, OnOk, vec_len, capacity_of, BookTerms, Shape, Dialect, Command, Machinery, StoreReply, RefineReply, FlushReply, Reply, Refusal, CallsBy, StoresAt, RefinesAt, WorksAt, StandIf, Makes, Says, AnswersAt, store_text, flush_text, refine_text, work_text, call_line, is_pause, AreMade, WasRefused, StepsThrough, IsPlayed, stepping, At, HasPlayed, Does, Stop, played_none, played_then, more_may_come}
use Rattle.g1_history.specs.declared.refusal.Refusal.TheVariants.{NoMemory, BookFull}
use Rattle.g1_trace.specs.declared.command.Command.TheVariants as command
use Rattle.g1_steps.specs.Steps.{IsFlushed}
use Rattle.g1_steps.specs.Rounds.{IsRefused}
use Rattle.g1_log.specs.declared.parcel.Parcel.{Parcel}
use Rattle.g1_replay.proofs.AnswerLemmas.{IsDone, IsPlayRefused, call_says, call_refused, flush_made, flush_nothing, nothing_played, played_by, refine_made, store_made, work_made}
use Rattle.g1_replay.proofs.PlayingLemmas.{CameTo, does_said, said_stops}

-- the text of an answer
abbrev Tells : Command → (old new : Machinery) → List ℕ → Type 0
Tells c old new text = IsDone old.book new.book c text

flush_done : (by : ℕ) (old new : Machinery) (cards : List ℕ) (reply : FlushReply) → IsFlushed (CallsBy by) old.book cards reply new.book → Tells (command.Flush by) old new (flush_text reply)
flush_done by old new cards reply (inl h) = flush_nothing old.book new.book by reply h.1 h.2
flush_done by old new cards reply (inr h) = flush_made old.book new.book by cards reply h.help h.made h.answer

work_done : (old new : Machinery) (reply : RefineReply) → capacity_of old.line ≡ old.book.machine.settings.limit → WorksAt old (Ok reply) new → Tells command.Work old new (work_text reply)
work_done old new reply room h =
    let round = h.0.step.round in
    work_made (CallsBy 0) old.book _ _ reply _ new.book round.2 old.book new.book round.0 (subst (λ (n : ℕ). round.0 ≤ n) room round.1) refl round.2.made

-- a command that was answered
makes_done : (c : Command) (old new : Machinery) (text : List ℕ) → capacity_of old.line ≡ old.book.machine.settings.limit → Makes c old new (Ok text) → Tells c old new text
makes_done (command.Store by slot target) old new text room m =
    subst (Tells (command.Store by slot target) old new) (sym m.2) (store_made (CallsBy by) old.book new.book old.book new.book by slot target _ m.0 m.1.step.stored m.1.step.stored.made)
makes_done (command.Flush by) old new text room m =
    let is : text ≡ flush_text m.0 = cc in
    subst (Tells (command.Flush by) old new) (sym is) (flush_done by old new _ m.0 m.1.step.flushed)
makes_done command.Refine old new text room m = subst (Tells command.Refine old new) (sym m.2) (refine_made old.book new.book _ m.0 m.1.0.step.refined.made)
makes_done command.Work old new text room m = subst (Tells command.Work old new) (sym m.2) (work_done old new m.0 room m.1)
makes_done (command.Call call) old new text room m = subst (Tells (command.Call call) old new) (sym m.2) (call_says old.book new.book call m.0 m.1.asked.made)

-- a command that was refused
round_refused : (old new : Machinery) (before after : List Parcel) (why : Refusal) → IsRefused (CallsBy 0) (Unit {0}) old.book before why new.book after → IsPlayRefused old.book new.book why
round_refused old new before after why (inl h) = call_refused old.book new.book why h.2 (λ e. let both : NoMemory ≡ BookFull = sym h.0 ∙ e in cc)
round_refused old new before after why (inr h) = call_refused old.book new.book why h.0.0 h.0.1.0

makes_refused : (c : Command) (old new : Machinery) (why : Refusal) → Makes c old new (Err why) → IsPlayRefused old.book new.book why
makes_refused (command.Store by slot target) old new why m = call_refused old.book new.book why m.step.err.0 m.step.err.1.0
makes_refused (command.Flush by) old new why m = let never : Err why ≡ Ok (flush_text m.0) = m.2 in cc
makes_refused command.Refine old new why m = call_refused old.book new.book why m.0.step.err.0 m.0.step.err.1.0
makes_refused command.Work old new why m = round_refused old new _ _ why m.0.step.err
makes_refused (command.Call call) old new why m = call_refused old.book new.book why m.asked.err.1 (λ e. m.asked.err.0.0 (ap Err e))

-- What no command changes: how many mutators there are, and the queue.
abbrev IsManned : (old new : Machinery) → Type 0
IsManned old new = (vec_len new.mutators ≡ vec_len old.mutators) × (new.line ≡ old.line)

set_manned : (old new : Machinery) (by : ℕ) (after : Mutator) → new.mutators.items ≡ set old.mutators.items by after → new.line ≡ old.line → IsManned old new
set_manned old new by after m l =
    let same : length new.mutators.items ≡ length old.mutators.items = ap length m ∙ length-set old.mutators.items by after in
    (omega (arith, same, new.mutators.ok.0, old.mutators.ok.0), l)

stand_manned : (pause : Bool) (old new : Machinery) → StandIf pause old new → IsManned old new
stand_manned true old new s = (omega (arith, s.many, new.mutators.ok.0, old.mutators.ok.0), s.emptied.line)
stand_manned false old new s = (ap vec_len s.0, s.2)

-- what was said was answered or refused
either_said : {V : Type 0} (text : V → List ℕ) (P : Result V Refusal → Type 0) (said : Result (List ℕ) Refusal) → Says text P said → (r : Result V Refusal) × P r
either_said text P (Ok said) h = (Ok h.0, h.1)
either_said text P (Err why) h = (Err why, h)

makes_manned : (c : Command) (old new : Machinery) (said : Result (List ℕ) Refusal) → Makes c old new said → IsManned old new
makes_manned (command.Store by slot target) old new said m =
    let s = either_said store_text (λ (r : Result StoreReply Refusal). StoresAt old by (slot, target) r new) said m in
    set_manned old new by s.1.after s.1.mutators s.1.line
makes_manned (command.Flush by) old new said m = set_manned old new by m.1.after m.1.mutators m.1.line
makes_manned command.Refine old new said m =
    let s = either_said refine_text (λ (r : Result RefineReply Refusal). RefinesAt old r new) said m in
    (ap vec_len s.1.1, s.1.0.line)
makes_manned command.Work old new said m =
    let s = either_said work_text (λ (r : Result RefineReply Refusal). WorksAt old r new) said m in
    (ap vec_len s.1.1, s.1.0.line)
makes_manned (command.Call call) old new said m =
    stand_manned (is_pause call) old new (either_said (call_line call) (λ (r : Result Reply Refusal). AnswersAt call old r new) said m).1.stand

-- The queue holds as many buffers as the settings of the book say.
abbrev HasRoom : Machinery → Type 0
HasRoom m = capacity_of m.line ≡ m.book.machine.settings.limit

same_room : (old new : Machinery) (c : Command) (text : List ℕ) → IsManned old new → Tells c old new text → HasRoom old → HasRoom new
same_room old new c text m d room = ap capacity_of m.1 ∙ room ∙ sym (ap (λ (t : BookTerms). t.settings.limit) d.1.terms)

-- commands that were answered, and the next one, as the calls of the book
made_played : (old new : Machinery) (cs : List Command) (text : List ℕ) → HasRoom old → AreMade old cs text new → HasPlayed old.book cs text new.book
made_played old new [] text room m =
    subst (λ (b : Machinery). HasPlayed old.book [] text b.book) (sym m.0) (subst (λ (l : List ℕ). HasPlayed old.book [] l old.book) (sym m.1) (played_none old.book))
made_played old new (c ∷ cs) text room m =
    let one = makes_done c old m.0 m.1 room m.3 in
    let next = same_room old m.0 c m.1 (makes_manned c old m.0 (Ok m.1) m.3) one room in
    subst (λ (l : List ℕ). HasPlayed old.book (c ∷ cs) l new.book) (sym m.5)
    (played_then old.book m.0.book new.book (c ∷ []) cs m.1 m.2 (played_by old.book m.0.book c m.1 one) (made_played m.0 new cs m.2 next m.4))

next_grows : (old new : Machinery) (cs : List Command) → WasRefused old cs new → Grows old.book [] new.book
next_grows old new [] r = subst (λ (m : Machinery). Grows old.book [] m.book) (sym r) (grows_none old.book)
next_grows old new (c ∷ []) r = (makes_refused c old new r.0 r.1).0
next_grows old new (c ∷ d ∷ cs) r = absurd r

pub stepped_played : (old new : Machinery) (done undone : List Command) (text : List ℕ) → HasRoom old → StepsThrough old done undone text new → HasPlayed old.book done text new.book
stepped_played old new done undone text room s =
    let both = played_then old.book s.reached.book new.book done [] text [] (made_played old s.reached done text room s.made) (nothing_played s.reached.book new.book (next_grows s.reached new undone s.refused)) in
    subst (λ (cs : List Command). HasPlayed old.book cs text new.book) (append-nil done) (subst (λ (l : List ℕ). HasPlayed old.book (done ++ []) l new.book) (append-nil text) both)

-- what one command comes to
came : (c : Command) (old new : Machinery) (said : Result (List ℕ) Refusal) → Makes c old new said → CameTo stepping.deeds c old said new
came c old new (Ok text) m = record { reached = new; made = (new, text, [], m, (refl, refl), sym (append-nil text)); refused = refl }
came c old new (Err why) m = (record { reached = old; made = (refl, refl); refused = (why, m) }, (makes_refused c old new why m).1)

pub played_does : (c : Command) (old new : At Machinery) (r : Result (Unit {0}) Stop) → IsPlayed c old new r → Does stepping.deeds (c ∷ []) old new (more_may_come r)
played_does c old new r p = does_said stepping.deeds c old new p.0 r (came c old.state new.state p.0 p.1) p.2

pub played_stops : (c : Command) (old new : At Machinery) (r : Result (Unit {0}) Stop) → IsPlayed c old new r → IfErr r MayStop
played_stops c old new r p = said_stops p.0 old.written new.written r p.2

-- after a command that was answered comes the next
ready_next : (c : Command) (old new : Machinery) (text : List ℕ) (l : Shape) (d : Dialect) → Makes c old new (Ok text) → stepping.takes old l d → stepping.takes new l d
ready_next c old new text l d m ready =
    let one = makes_done c old new text ready.4 m in
    let manned = makes_manned c old new (Ok text) m in
    let terms = one.1.terms in
    (ap (λ (t : BookTerms). t.layout) terms ∙ ready.0, ap (λ (t : BookTerms). t.mutators) terms ∙ ready.1, manned.0 ∙ ready.2, ready.3, same_room old new c text manned one ready.4)

pub played_ready : (c : Command) (old new : At Machinery) (r : Result (Unit {0}) Stop) (l : Shape) (d : Dialect) → IsPlayed c old new r → stepping.takes old.state l d → OnOk r (stepping.takes new.state l d)
played_ready c old new (Err stop) l d p ready = tt
played_ready c old new (Ok done) l d p ready = by_said p.0 p.1 p.2
  where
    by_said : (said : Result (List ℕ) Refusal) → Makes c old.state new.state said → IsSaid said old.written new.written (Ok done) → stepping.takes new.state l d
    by_said (Ok text) m s = ready_next c old.state new.state text l d m ready
    by_said (Err why) m s = let never : Ok done ≡ Err (stop_of why) = s.0 in cc
