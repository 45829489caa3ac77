-- What a store and a flush do to a caller whose counts tell of their calls.
use Rattle.std.specs.Prelude.{◌≡◌, ◌≤◌, ◌+◌, ◌∷◌, ◌++◌}
use Rattle.g1_shared.specs.{ℕ, List, [], Option, Some, None, Result, Ok, Err, OnOk, length, count_by, cond, refl, sym, ap, subst, ◌∙◌, arith, append-nil, inl, inr, Shape, Entry, StoreReply, CallMade, Help, help_calls, entries_made, store_entry, is_store, CallerCounts, did_nothing, CountsDid, CallerState, caller_mark, taken_list, mutator_log, OfMutators, StoresBy, FlushesBy, DeskDid, AskStore, AskFlush, Line, capacity_of, Taker, taken_of, Mutator, Refusal, card_of}
use Rattle.g1_log.specs.Log.{Cards}
use Rattle.g1_steps.specs.Steps.{IsFlushed, IsStoreStep, IsFlushStep}
use Rattle.g1_steps.specs.declared.steps.mutator.FlushReply.{FlushReply}
use Rattle.g1_steps.proofs.ServedLemmas.{served_store, served_flush}
use Rattle.g1_shared.proofs.CountLemmas.{grown}
use Rattle.std.proofs.lemmas.List.Sums.{sum_by-cons}

-- the same store, of whose calls something else is told
pub store_as : {S T : Type 0} (did : S → List CallMade → S → Type 0) (tells : T → List CallMade → T → Type 0) (line : Line) (old new : S) (was now : T) (m n : Mutator) (slot : ℕ) (target : Option ℕ) (card : ℕ) (r : Result StoreReply Refusal) → ((calls : List CallMade) → did old calls new → tells was calls now)
    → IsStoreStep did line old m slot target card r n new → IsStoreStep tells line was m slot target card r n now
store_as did tells line old new was now m n slot target card (Ok reply) told h = record {
  stored = record { first = h.stored.first; help = h.stored.help; made = told _ h.stored.made; answer = h.stored.answer; plain = h.stored.plain; own = h.stored.own; full = h.stored.full; helps = h.stored.helps };
  log = h.log;
  fill = h.fill;
  put = h.put;
  helped = h.helped;
  empty = h.empty;
  same = h.same;
  err = tt;
  err_ends = tt;
}
store_as did tells line old new was now m n slot target card (Err refusal) told h = record { stored = tt; log = tt; fill = tt; put = tt; helped = tt; empty = tt; same = h.same; err = told _ h.err; err_ends = h.err_ends }

flushed_as : {S T : Type 0} (did : S → List CallMade → S → Type 0) (tells : T → List CallMade → T → Type 0) (old new : S) (was now : T) (cards : List ℕ) (reply : FlushReply) → ((calls : List CallMade) → did old calls new → tells was calls now) → (new ≡ old → now ≡ was)
    → IsFlushed did old cards reply new → IsFlushed tells was cards reply now
flushed_as did tells old new was now cards reply told same (inl e) = inl (e.0, e.1, same e.2)
flushed_as did tells old new was now cards reply told same (inr h) = inr (record { some = h.some; help = h.help; made = told _ h.made; answer = h.answer })

-- and the same flush
pub flush_as : {S T : Type 0} (did : S → List CallMade → S → Type 0) (tells : T → List CallMade → T → Type 0) (line : Line) (old new : S) (was now : T) (m n : Mutator) (reply : FlushReply) → ((calls : List CallMade) → did old calls new → tells was calls now) → (new ≡ old → now ≡ was)
    → IsFlushStep did line old m reply n new → IsFlushStep tells line was m reply n now
flush_as did tells line old new was now m n reply told same h = record {
  flushed = flushed_as did tells old new was now m.log.cards reply told same h.flushed;
  cards = h.cards;
  log = h.log;
  put = h.put;
  helped = h.helped;
  same = h.same;
}

-- a help is one entry at most, and no store
help_entries : (n : ℕ) (cards : List ℕ) (help : Help) → (length (entries_made n (help_calls cards help)) ≤ 1) × (count_by is_store (entries_made n (help_calls cards help)) ≡ 0)
help_entries n cards None = (omega arith, refl)
help_entries n cards (Some (Ok reply)) = (omega arith, refl)
help_entries n cards (Some (Err refusal)) = (omega arith, refl)

-- what holds of a caller's mutators, by what is left where they are there
mutators_are : {P : Mutator → Mutator → Type 0} {R : Type 0} (a b : Option Mutator) → ((m n : Mutator) → b ≡ Some n → P m n → R) → OfMutators P a b → R
mutators_are (Some m) (Some n) then h = then m n refl h
mutators_are (Some m) None then h = absurd h
mutators_are None b then h = absurd h

-- what a desk tells of a store
pub desk_stored : (layout : Shape) (line : Line) (s t : CallerState) (slot : ℕ) (target : Option ℕ) (r : Result StoreReply Refusal) → caller_mark t ≡ caller_mark s → StoresBy layout line s slot target r t → OnOk r (DeskDid layout (capacity_of line) s (AskStore slot target ∷ []) (capacity_of line) t)
desk_stored layout line s t slot target (Err refusal) mark h = tt
desk_stored layout line s t slot target (Ok reply) mark h = mutators_are s.mutator t.mutator (λ m n is step.
    let stored = step.stored in
    let more = grown s.counts t.counts _ stored.made.0 in
    let help = help_entries s.counts.number (m.log.cards ++ card_of layout slot ∷ []) stored.help in
    let all = sum_by-cons (λ (e : Entry). cond (is_store e) 1 0) (store_entry s.counts.number slot target stored.first) (entries_made s.counts.number (help_calls (m.log.cards ++ card_of layout slot ∷ []) stored.help)) in (
      refl,
      record {
        mark = mark;
        served = served_store (CountsDid layout) s.counts slot target _ reply t.counts stored;
        stored = omega (arith, more.2, all, help.1);
        log = tt;
        most = omega (arith, more.1, help.0);
        each = record { parcels = []; gained = ap taken_of h.taker ∙ sym (append-nil (taken_list s)); within = omega (arith, more.1, help.0) };
      },
    )) h.step

flush_grows : (layout : Shape) (s t : CallerCounts) (cards : List ℕ) (reply : FlushReply) → IsFlushed (CountsDid layout) s cards reply t → (es : List Entry) × (t ≡ record { number = s.number; did = s.did ++ es }) × (length es ≤ 1) × (count_by is_store es ≡ 0)
flush_grows layout s t cards reply (inl e) = ([], e.2 ∙ did_nothing s, omega arith, refl)
flush_grows layout s t cards reply (inr h) = let help = help_entries s.number cards h.help in (entries_made s.number (help_calls cards h.help), h.made.0, help.0, help.1)

-- and of a flush
pub desk_flushed : (layout : Shape) (line : Line) (s t : CallerState) (reply : FlushReply) → caller_mark t ≡ caller_mark s → FlushesBy layout line s reply t → DeskDid layout (capacity_of line) s (AskFlush ∷ []) (capacity_of line) t
desk_flushed layout line s t reply mark h = mutators_are s.mutator t.mutator (λ m n is step.
    let grows = flush_grows layout s.counts t.counts m.log.cards reply step.flushed in
    let more = grown s.counts t.counts grows.0 grows.1 in (
      refl,
      record {
        mark = mark;
        served = served_flush (CountsDid layout) s.counts m.log.cards reply t.counts (did_nothing s.counts, tt) step.flushed;
        stored = omega (arith, more.2, grows.3);
        log = flushed_log t.mutator n is step.log;
        most = omega (arith, more.1, grows.2);
        each = record { parcels = []; gained = ap taken_of h.taker ∙ sym (append-nil (taken_list s)); within = omega (arith, more.1, grows.2) };
      },
    )) h.step
  where
    flushed_log : (m : Option Mutator) (n : Mutator) {size : ℕ} → m ≡ Some n → n.log ≡ record { size = size; cards = [] } → (mutator_log m).cards ≡ []
    flushed_log m n is log = ap (λ (o : Option Mutator). (mutator_log o).cards) is ∙ ap (λ (l : Cards). l.cards) log

-- a caller whose mutator was lent is that caller
pub lent_caller : (counts : CallerCounts) (taker : Taker) (m : Mutator) (mutator : Option Mutator) (c : CallerState) → Some m ≡ mutator → record { counts = counts; mutator = mutator; taker = taker } ≡ c → (P : CallerState → Type 0) → P (record { counts = counts; mutator = Some m; taker = taker }) → P c
lent_caller counts taker m mutator c is was P p = subst P ((λ i. record { counts = counts; mutator = is i; taker = taker }) ∙ was) p
