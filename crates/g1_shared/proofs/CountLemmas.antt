-- How counts grow, and what a round does at a shared book and at a desk of it.
use Rattle.std.specs.Prelude.{◌≡◌, ◌+◌, ◌-◌, ◌/◌, ◌≤◌, if◌then◌else◌, ◌∷◌, ◌++◌}
use Rattle.g1_shared.specs.{ℕ, Bool, true, false, cond, nat_lt, Option, Some, None, List, [], length, map, refl, sym, subst, ap, ◌∙◌, arith, append_assoc, append-nil, length-append, count_by, Result, Ok, Err, IfOk, OnOk, Line, capacity_of, SharedTerms, AskWork, CallerState, RefinesBy, WorksBy, CallerMark, caller_mark, taken_list, DeskDid, inl, inr, Mutator, length-map, sum_by-append, Shape, Parcel, Taker, taken_of, RefineReply, Entry, Refusal, CallMade, GainsAtMost, Turn, round_calls, round_size, IsRound, CallerCounts, refine_entry, entries_made, did_more, did_nothing, made_by, stored_by, CountsDid, is_store, MakesFor}
use Rattle.g1_log.specs.Ends.{IsSameTaker}
use Rattle.g1_steps.specs.Marks.{mutator_mark}
use Rattle.g1_steps.specs.Rounds.{IsRefused, IsWorkStep}
use Rattle.g1_steps.specs.Steps.{IsRefineStep}
use Rattle.g1_steps.proofs.StepLemmas.{gains_nothing}
use Rattle.g1_steps.proofs.ServedLemmas.{served_round}
use Rattle.std.proofs.lemmas.List.Sums.{sum_by-cons}

-- how many stores there are with one entry more
pub stores_more : (es now : List Entry) (e : Entry) (n : ℕ) → n ≡ count_by is_store es → now ≡ es ++ e ∷ [] → n + cond (is_store e) 1 0 ≡ count_by is_store now
stores_more es now e n was is = let all = sum_by-append (λ x. cond (is_store x) 1 0) es (e ∷ []) in omega (arith, was, all, ap (count_by is_store) is)

-- what counts grow by
pub grown : (t u : CallerCounts) (es : List Entry) → u ≡ did_more t es → (u.number ≡ t.number) × (made_by u ≡ made_by t + length es) × (stored_by u ≡ stored_by t + count_by is_store es)
grown t u es is = (ap (λ (c : CallerCounts). c.number) is, ap made_by is ∙ length-append t.did es, ap stored_by is ∙ sum_by-append (λ (e : Entry). cond (is_store e) 1 0) t.did es)

-- each call of a round is one entry, and none is a store
round_entries : (n : ℕ) (turns : List Turn) (refused : Option Refusal) → (length (entries_made n (round_calls turns refused)) ≡ length turns) × (count_by is_store (entries_made n (round_calls turns refused)) ≡ 0)
round_entries n [] None = (refl, refl)
round_entries n [] (Some refusal) = (refl, refl)
round_entries n (x ∷ xs) None = let rest = round_entries n xs None in (omega (arith, rest.0), omega (arith, rest.1, sum_by-cons (λ (e : Entry). cond (is_store e) 1 0) (refine_entry n x.reply) (entries_made n (round_calls xs None))))
round_entries n (x ∷ xs) (Some refusal) = let rest = round_entries n xs (Some refusal) in (omega (arith, rest.0), omega (arith, rest.1, sum_by-cons (λ (e : Entry). cond (is_store e) 1 0) (refine_entry n x.reply) (entries_made n (round_calls xs (Some refusal)))))

size_by : (less : Bool) (start seen : ℕ) → (if less then 0 else seen - start / 4) ≤ seen
size_by true start seen = omega arith
size_by false start seen = omega arith

pub size_within : (start seen : ℕ) → round_size start seen ≤ seen
size_within start seen = size_by (nat_lt seen start) start seen

-- the same round, of whose calls something else is told, and of whose size another name is known
pub round_as : {S T : Type 0} (did : S → List CallMade → S → Type 0) (tells : T → List CallMade → T → Type 0) (old new : S) (was now : T) (before : List Parcel) (most named : ℕ) (reply : RefineReply) (after : List Parcel) → most ≡ named
    → ((calls : List CallMade) → did old calls new → tells was calls now) → IsRound did old before most reply after new → IsRound tells was before named reply after now
round_as did tells old new was now before most named reply after same told h = subst (λ n. IsRound tells was before n reply after now) same (record {
  turns = h.turns;
  refused = h.refused;
  made = told (round_calls h.turns h.refused) h.made;
  ends = h.ends;
  taken = h.taken;
  kept = h.kept;
  cause = h.cause;
  sums = h.sums;
  order = h.order;
  few = h.few;
  begun = h.begun;
  within = h.within;
  all = h.all;
})

-- a round makes no more entries than its taker gains parcels
pub round_makes : (layout : Shape) (t : CallerCounts) (before : List Parcel) (most : ℕ) (reply : RefineReply) (after : List Parcel) (u : CallerCounts) → IsRound (CountsDid layout) t before most reply after u → MakesFor (made_by t) before (made_by u) after
round_makes layout t before most reply after u h =
    let all = map (λ (x : Turn). x.parcel) h.turns in
    let worked = grown t u _ h.made.0 in
    record {
      parcels = all ++ h.taken.parcels;
      gained = h.taken.gained ∙ append_assoc before all h.taken.parcels;
      within = omega (arith, worked.1, (round_entries t.number h.turns h.refused).0, length-append all h.taken.parcels, length-map h.turns (λ (x : Turn). x.parcel));
    }

-- where none was made, its taker may have gained parcels or not
pub makes_none : (made made' : ℕ) (old new : List Parcel) → made' ≤ made → new ≡ old → MakesFor made old made' new
makes_none made made' old new few same = record { parcels = []; gained = same ∙ sym (append-nil old); within = omega (arith, few) }

pub makes_lost : (made made' most : ℕ) (old new : List Parcel) → made' ≤ made → GainsAtMost old most new → MakesFor made old made' new
makes_lost made made' most old new few lost = record { parcels = lost.parcels; gained = lost.gained; within = omega (arith, few) }

-- the same refinement or round, of whose calls something else is told
pub refine_as : {S T : Type 0} (did : S → List CallMade → S → Type 0) (tells : T → List CallMade → T → Type 0) (line : Line) (old new : S) (was now : T) (before after : Taker) (r : Result RefineReply Refusal) → ((calls : List CallMade) → did old calls new → tells was calls now)
    → IsRefineStep did line old before r after new → IsRefineStep tells line was before r after now
refine_as did tells line old new was now before after (Ok reply) told h = record {
  refined = record { parcel = h.refined.parcel; take = h.refined.take; made = told _ h.refined.made };
  counts = h.counts;
  left = h.left;
  one = h.one;
  same = h.same;
  err = tt;
  given_up = tt;
}
refine_as did tells line old new was now before after (Err refusal) told h = record { refined = tt; counts = tt; left = tt; one = tt; same = h.same; err = told _ h.err; given_up = h.given_up }

refused_as : {S T : Type 0} (did : S → List CallMade → S → Type 0) (tells : T → List CallMade → T → Type 0) (lacks : Type 0) (old new : S) (was now : T) (before after : List Parcel) (refusal : Refusal) → ((calls : List CallMade) → did old calls new → tells was calls now) → (new ≡ old → now ≡ was)
    → IsRefused did lacks old before refusal new after → IsRefused tells lacks was before refusal now after
refused_as did tells lacks old new was now before after refusal told same (inl e) = inl (e.0, e.1, same e.2, e.3)
refused_as did tells lacks old new was now before after refusal told same (inr e) = inr (told _ e.0, e.1)

pub work_as : {S T : Type 0} (did : S → List CallMade → S → Type 0) (tells : T → List CallMade → T → Type 0) (line : Line) (start named : ℕ) (old new : S) (was now : T) (before after : Taker) (r : Result RefineReply Refusal) → start ≡ named → ((calls : List CallMade) → did old calls new → tells was calls now) → (new ≡ old → now ≡ was)
    → IsWorkStep did line start old before r after new → IsWorkStep tells line named was before r after now
work_as did tells line start named old new was now before after (Ok reply) is told same h = record {
  round = (h.round.0, h.round.1, round_as did tells old new was now (taken_of before) (round_size start h.round.0) (round_size named h.round.0) reply (taken_of after) (ap (λ n. round_size n h.round.0) is) told h.round.2);
  counts = h.counts;
  left = h.left;
  same = h.same;
  err = tt;
}
work_as did tells line start named old new was now before after (Err refusal) is told same h =
    record { round = tt; counts = tt; left = tt; same = h.same; err = refused_as did tells (Unit {0}) old new was now (taken_of before) (taken_of after) refusal told same h.err }

-- it is the same caller
marked : (counts now : CallerCounts) (mutator : Option Mutator) (before after : Taker) → now.number ≡ counts.number → IsSameTaker after before → caller_mark (record { counts = now; mutator = mutator; taker = after }) ≡ caller_mark (record { counts = counts; mutator = mutator; taker = before })
marked counts now mutator before after number same = λ i. record { number = number i; mutator = mutator_mark mutator; taker = record { line = same.home i; rights = same.rights i } }

refine_number : (layout : Shape) (line : Line) (counts now : CallerCounts) (before after : Taker) (r : Result RefineReply Refusal) → IsRefineStep (CountsDid layout) line counts before r after now → now.number ≡ counts.number
refine_number layout line counts now before after (Ok reply) h = ap (λ (n : CallerCounts). n.number) h.refined.made.0
refine_number layout line counts now before after (Err refusal) h = ap (λ (n : CallerCounts). n.number) h.err.0

pub refines : {S : Type 0} (did : S → List CallMade → S → Type 0) (layout : Shape) (line : Line) (old new : S) (counts now : CallerCounts) (mutator : Option Mutator) (before after : Taker) (r : Result RefineReply Refusal) → ((calls : List CallMade) → did old calls new → CountsDid layout counts calls now) → IsRefineStep did line old before r after new
    → RefinesBy layout line (record { counts = counts; mutator = mutator; taker = before }) r (record { counts = now; mutator = mutator; taker = after })
refines did layout line old new counts now mutator before after r told h =
    let step = refine_as did (CountsDid layout) line old new counts now before after r told h in
    record { mark = marked counts now mutator before after (refine_number layout line counts now before after r step) h.same; mutator = refl; step = step }

-- the counts after a refused round, and what was given up
lost_by : (layout : Shape) (counts now : CallerCounts) (before after : List Parcel) (refusal : Refusal) → IsRefused (CountsDid layout) (Unit {0}) counts before refusal now after → (now ≡ counts) × GainsAtMost before 1 after
lost_by layout counts now before after refusal (inl e) = (e.2, gains_nothing _ _ e.3)
lost_by layout counts now before after refusal (inr e) = (e.0.0 ∙ sym (did_nothing counts), e.1)

works_by : (terms : SharedTerms) (line : Line) (counts now : CallerCounts) (mutator : Option Mutator) (before after : Taker) (r : Result RefineReply Refusal) → IsWorkStep (CountsDid terms.layout) line terms.settings.start counts before r after now
    → WorksBy terms line (record { counts = counts; mutator = mutator; taker = before }) r (record { counts = now; mutator = mutator; taker = after })
works_by terms line counts now mutator before after (Ok reply) h =
    let round = h.round.2 in
    let worked = grown counts now _ round.made.0 in
    let calls = round_entries counts.number round.turns round.refused in
    let seen = size_within terms.settings.start h.round.0 in
    record {
      mark = marked counts now mutator before after worked.0 h.same;
      mutator = refl;
      stored = omega (arith, worked.2, calls.1);
      made = (omega (arith, worked.1), omega (arith, worked.1, calls.0, round.within, seen, h.round.1));
      step = h;
      err = tt;
    }
works_by terms line counts now mutator before after (Err refusal) h =
    let lost = lost_by terms.layout counts now (taken_of before) (taken_of after) refusal h.err in
    let same = ap made_by lost.0 in
    record {
      mark = marked counts now mutator before after (ap (λ (n : CallerCounts). n.number) lost.0) h.same;
      mutator = refl;
      stored = ap stored_by lost.0;
      made = (omega (arith, same), omega (arith, same));
      step = h;
      err = lost;
    }

pub works : {S : Type 0} (did : S → List CallMade → S → Type 0) (terms : SharedTerms) (line : Line) (start : ℕ) (old new : S) (counts now : CallerCounts) (mutator : Option Mutator) (before after : Taker) (r : Result RefineReply Refusal) → start ≡ terms.settings.start → ((calls : List CallMade) → did old calls new → CountsDid terms.layout counts calls now) → (new ≡ old → now ≡ counts)
    → IsWorkStep did line start old before r after new → WorksBy terms line (record { counts = counts; mutator = mutator; taker = before }) r (record { counts = now; mutator = mutator; taker = after })
works did terms line start old new counts now mutator before after r is told same h =
    works_by terms line counts now mutator before after r (work_as did (CountsDid terms.layout) line start terms.settings.start old new counts now before after r is told same h)

pub work_number : {S : Type 0} (did : S → List CallMade → S → Type 0) (terms : SharedTerms) (line : Line) (start : ℕ) (old new : S) (counts now : CallerCounts) (before after : Taker) (r : Result RefineReply Refusal) → start ≡ terms.settings.start → ((calls : List CallMade) → did old calls new → CountsDid terms.layout counts calls now) → (new ≡ old → now ≡ counts)
    → IsWorkStep did line start old before r after new → now.number ≡ counts.number
work_number did terms line start old new counts now before after r is told same h = ap (λ (m : CallerMark). m.number) (works did terms line start old new counts now None before after r is told same h).mark

-- what a desk tells of a round
pub desk_worked : (terms : SharedTerms) (line : Line) (s t : CallerState) (r : Result RefineReply Refusal) → WorksBy terms line s r t → OnOk r (DeskDid terms.layout (capacity_of line) s (AskWork ∷ []) (capacity_of line) t)
desk_worked terms line s t (Err refusal) h = tt
desk_worked terms line s t (Ok reply) h =
    let makes = round_makes terms.layout s.counts (taken_list s) _ reply (taken_list t) t.counts h.step.round.2 in (
      refl,
      record {
        mark = h.mark;
        served = served_round (CountsDid terms.layout) s.counts (taken_list s) _ reply (taken_list t) t.counts h.step.round.2;
        stored = omega (arith, h.stored);
        log = tt;
        most = omega (arith, h.made.1);
        each = record { parcels = makes.parcels; gained = makes.gained; within = omega (arith, makes.within) };
      },
    )

pub work_told : (terms : SharedTerms) (line : Line) (s t : CallerState) (r : Result RefineReply Refusal) → WorksBy terms line s r t → IfOk r (λ reply. WorksBy terms line s (Ok reply) t)
work_told terms line s t (Err refusal) h = tt
work_told terms line s t (Ok reply) h = h
