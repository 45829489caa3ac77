-- What a command comes to, by the steps of the callers.
use Rattle.std.specs.Prelude.{◌≡◌, ◌<◌}
use Rattle.g1_replay.specs.{◌∙◌, All, Line, IsSenderOf, AreNewMutators, ℕ, List, Bool, true, false, arith, length, set, vec_len, slice_index_or, refl, sym, ap, subst, inl, inr, Option, Result, Ok, Err, IsErrAnd, err_from_is_err_and, Appends, AppendsFront, Appends-nil, History, Reply, Refusal, Mutator, Taker, MutatorSteps, FirstSteps, IsStopped, MakesAsked, Machinery, AnswersAt, Says, IsPlayed, IsDoneAndSaid, StandIf, StandStill, call_line, is_pause, Stop, WriteFailed, stop_of, At, at, IsCallPlayed}
use Rattle.g1_core.specs.declared.entry.Call.{Call}
use Rattle.g1_steps.proofs.OpeningLemmas.{mutators_each}
use Rattle.g1_trace.specs.declared.command.Command.TheVariants as command

-- new mutators have senders of their line
pub are_senders : (line : Line) (size k : ℕ) (ms : List Mutator) → AreNewMutators line size k ms → All (λ m. IsSenderOf line m.sender) ms
are_senders line size k ms all = mutators_each line size k ms (λ m. IsSenderOf line m.sender) (λ n m new. new.sender.of) all

-- a step of a mutator, and one of the first taker
pub mutator_stepped : (by : ℕ) (Step : Mutator → Mutator → Type 0) (old new : Machinery) (before after : Mutator) → by < old.book.mutators → vec_len old.mutators ≡ old.book.mutators → before ≡ slice_index_or old.mutators.items by before → Step before after
    → new.mutators.items ≡ set old.mutators.items by after → new.takers ≡ old.takers → new.line ≡ old.line → MutatorSteps by Step old new
mutator_stepped by Step old new before after below many own step mutators takers line = record { before = before; after = after; there = omega (arith, below, many, old.mutators.ok.0); own = own; step = step; mutators = mutators; takers = takers; line = line }

pub first_stepped : (Step : Taker → Taker → Type 0) (old new : Machinery) (before after : Taker) → before ≡ slice_index_or old.takers.items 0 before → Step before after → new.takers.items ≡ set old.takers.items 0 after → new.line ≡ old.line → FirstSteps Step old new
first_stepped Step old new before after own step takers line = record { before = before; after = after; there = omega (arith, old.callers.0, old.takers.ok.0); own = own; step = step; takers = takers; line = line }

-- what was done and answered, whose text was not written, and what was refused
pub said_ok : (Done : Result (List ℕ) Refusal → Type 0) (text : List ℕ) (out out' : Option (List ℕ)) → Done (Ok text) → Appends out out' text → IsDoneAndSaid Done out out' (Ok tt)
said_ok Done text out out' done w = (Ok text, done, (inl refl, w))

pub said_front : (Done : Result (List ℕ) Refusal → Type 0) (text : List ℕ) (out out' : Option (List ℕ)) (r : Result (Unit {0}) Stop) → IsErrAnd r (λ stop. stop ≡ WriteFailed) → Done (Ok text) → AppendsFront out out' text → IsDoneAndSaid Done out out' r
said_front Done text out out' r failed done w = let e = err_from_is_err_and r failed in rw (e.1, e.2) (Ok text, done, (inr refl, w))

pub said_refused : (Done : Result (List ℕ) Refusal → Type 0) (refusal : Refusal) (out : Option (List ℕ)) (r : Result (Unit {0}) Stop) → IsErrAnd r (λ stop. stop ≡ stop_of refusal) → Done (Err refusal) → IsDoneAndSaid Done out out r
said_refused Done refusal out r refused done = let e = err_from_is_err_and r refused in rw (e.1, e.2) (Err refusal, done, (refl, Appends-nil out))

-- what was said of each mutator of a slice holds of each of the vector that it is a part of
pub all_stopped : (was seen after now : List Mutator) → seen ≡ was → now ≡ after → ((k : ℕ) (d : Mutator) → k < length seen → IsStopped (slice_index_or seen k d) (slice_index_or after k d)) → (k : ℕ) (d : Mutator) → k < length was → IsStopped (slice_index_or was k d) (slice_index_or now k d)
all_stopped was seen after now of is h =
    subst (λ (ms : List Mutator). (k : ℕ) (d : Mutator) → k < length was → IsStopped (slice_index_or was k d) (slice_index_or ms k d)) (sym is)
    (subst (λ (ms : List Mutator). (k : ℕ) (d : Mutator) → k < length ms → IsStopped (slice_index_or ms k d) (slice_index_or after k d)) of h)

pub stand_paused : (pause : Bool) (old new : Machinery) → pause ≡ true → StandStill old new → StandIf pause old new
stand_paused pause old new is h = subst (λ (p : Bool). StandIf p old new) (sym is) h

-- the mutators stand as they stood
stand_on : (pause : Bool) (old mid new : Machinery) → new.mutators ≡ mid.mutators → new.takers ≡ mid.takers → new.line ≡ mid.line → StandIf pause old mid → StandIf pause old new
stand_on true old mid new m t l s = record {
  many = ap (λ v. length v.items) m ∙ s.many;
  stopped = λ k d lt. subst (λ v. IsStopped (slice_index_or old.mutators.items k d) (slice_index_or v.items k d)) (sym m) (s.stopped k d lt);
  emptied = record {
    before = s.emptied.before;
    after = s.emptied.after;
    there = s.emptied.there;
    own = s.emptied.own;
    step = s.emptied.step;
    takers = ap (λ v. v.items) t ∙ s.emptied.takers;
    line = l ∙ s.emptied.line;
  };
}
stand_on false old mid new m t l s = (m ∙ s.0, t ∙ s.1, l ∙ s.2)

says_as : {V : Type 0} (text : V → List ℕ) (P Q : Result V Refusal → Type 0) (said : Result (List ℕ) Refusal) → ((r : Result V Refusal) → P r → Q r) → Says text P said → Says text Q said
says_as text P Q (Ok said) f h = (h.0, f (Ok h.0) h.1, h.2)
says_as text P Q (Err why) f h = f (Err why) h

pub call_played : (call : Call) (old new : At Machinery) (mid : Machinery) (r : Result (Unit {0}) Stop) → StandIf (is_pause call) old.state mid → mid.book ≡ old.state.book → new.state.mutators ≡ mid.mutators → new.state.takers ≡ mid.takers → new.state.line ≡ mid.line
    → IsCallPlayed call (at mid.book old.written) (at new.state.book new.written) r → IsPlayed (command.Call call) old new r
call_played call old new mid r stand same m t l asked = (
  asked.0,
  says_as (call_line call) (λ (r : Result Reply Refusal). MakesAsked true mid.book 0 call r new.state.book) (λ (r : Result Reply Refusal). AnswersAt call old.state r new.state) asked.0
      (λ r made. record { stand = stand_on (is_pause call) old.state mid new.state m t l stand; asked = subst (λ (b : History). MakesAsked true b 0 call r new.state.book) same made }) asked.1,
  asked.2,
)
