-- A round of refinements, call after call.
use Rattle.std.specs.Prelude.{◌≡◌, ◌+◌, ◌<◌, ◌≤◌, ◌⊎◌, ◌∷◌, ◌++◌}
use Rattle.g1_steps.specs.{inl, inr, ℕ, Bool, true, false, List, [], length, map, refl, sym, subst, ap, ◌∙◌, arith, append-nil, length-append, Option, Some, None, All, IsSome, IsNone, All-nil, All-push, Parcel, RefineReply, Refusal, CallMade, Refused, GainsAtMost, FoundEmpty, Turn, turn_call, round_calls, IsRoundIn, IsRound, IsLastShort, IsLastListed, IsSumOf, IsRefused, replies_of, parcels_of, AreWholeButLast, Progress, IsNextOf}
use Rattle.g1_steps.proofs.StepLemmas.{gains_nothing}
use Rattle.g1_steps.proofs.TurnLemmas.{sums_turn, whole_all, whole_but_last, replies_more, not_of, Then, one_more, taken_more}

-- The last turn had room for as many cards as a buffer has: the list has grown into it since.
pub record HadRoom (turns : List Turn) (listed capacity : ℕ) : Type 0 where
  pub front : List Turn
  pub last : Turn
  pub turns_are : turns ≡ front ++ last ∷ []
  pub room : listed + 256 ≤ capacity + length last.reply.refined

-- A round so far: `calls` calls, all of them whole, with a list of this capacity.
pub record IsRoundSoFar {S : Type 0} (did : S → List CallMade → S → Type 0) (old : S) (before : List Parcel) (calls capacity : ℕ) (p : Progress S) : Type 0 where
  pub turns : List Turn
  pub made : did old (map turn_call turns) p.state
  pub taken : p.taken ≡ before ++ parcels_of turns
  pub sums : IsSumOf (replies_of turns) p.sum
  pub whole : All (λ r. r.short ≡ false) (replies_of turns)
  pub short : p.sum.short ≡ false
  pub many : length turns ≡ calls
  pub few : p.sum.taken ≤ length turns
  pub room : 1 ≤ calls → HadRoom turns (length p.sum.refined) capacity

-- no sums yet
pub record IsNothing (sum : RefineReply) : Type 0 where
  pub taken : sum.taken ≡ 0
  pub refined : sum.refined ≡ []
  pub hot : sum.hot ≡ 0
  pub skipped : sum.skipped ≡ 0
  pub short : sum.short ≡ false

pub round_begins : {S : Type 0} (did : S → List CallMade → S → Type 0) (old : S) (before : List Parcel) (capacity : ℕ) (sum : RefineReply) → did old [] old → IsNothing sum → IsRoundSoFar did old before 0 capacity (record { state = old; sum = sum; taken = before })
round_begins did old before capacity sum made none = record {
  turns = [];
  made = made;
  taken = sym (append-nil before);
  sums = record { taken = none.taken; refined = none.refined; hot = none.hot; skipped = none.skipped; whole = λ _. All-nil (λ r. r.short ≡ false) };
  whole = All-nil (λ r. r.short ≡ false);
  short = none.short;
  many = refl;
  few = omega (arith, none.taken);
  room = λ some. absurd (omega (arith, some));
}

-- a round goes on after a whole call
pub round_goes_on : {S : Type 0} (did : S → List CallMade → S → Type 0) (then : Then did) (old : S) (before : List Parcel) (calls was now : ℕ) (mid new : Progress S) (more : Bool) → IsRoundSoFar did old before calls was mid → more ≡ true → length mid.sum.refined + 256 ≤ now → IsNextOf did mid more new → IsRoundSoFar did old before (calls + 1) now new
round_goes_on did then old before calls was now mid new more h goes room (inl call) =
    let t : Turn = record { parcel = call.parcel; reply = call.reply } in
    let whole : t.reply.short ≡ false = not_of t.reply.short true (sym goes ∙ call.goes_on) in
    record {
      turns = h.turns ++ t ∷ [];
      made = one_more did then old mid.state new.state h.turns t h.made call.made;
      taken = taken_more before h.turns t mid.taken new.taken h.taken call.taken;
      sums = subst (IsSumOf (replies_of (h.turns ++ t ∷ []))) (sym call.sum) (sums_turn h.turns mid.sum t h.sums h.whole);
      whole = subst (All (λ r. r.short ≡ false)) (replies_more h.turns t) (All-push (λ q. q.short ≡ false) (replies_of h.turns) t.reply h.whole whole);
      short = ap (λ (q : RefineReply). q.short) call.sum ∙ whole;
      many = omega (arith, h.many, length-append h.turns (t ∷ []));
      few = omega (arith, h.few, call.one, ap (λ (q : RefineReply). q.taken) call.sum, length-append h.turns (t ∷ []));
      room = λ _. record {
        front = h.turns;
        last = t;
        turns_are = refl;
        room = omega (arith, room, ap (λ (q : RefineReply). length q.refined) call.sum, length-append mid.sum.refined t.reply.refined);
      };
    }
round_goes_on did then old before calls was now mid new more h goes room (inr none) = absurd (cc (goes, none.ends))

-- a round that made whole calls alone ends where they are all, or the line was empty
pub round_stops : {S : Type 0} (did : S → List CallMade → S → Type 0) (lacks : Type 0) (old : S) (before : List Parcel) (calls most capacity : ℕ) (p : Progress S) → IsRoundSoFar did old before calls capacity p → calls ≤ most → (calls ≡ most) ⊎ FoundEmpty p.taken → IsRoundIn did lacks old before most p.sum p.taken p.state
round_stops did lacks old before calls most capacity p h few ends = record {
  turns = h.turns;
  refused = None;
  made = h.made;
  ends = λ some. cc some;
  taken = gains_nothing (before ++ parcels_of h.turns) p.taken h.taken;
  kept = λ _. h.taken;
  cause = λ short. absurd (cc (short, h.short));
  sums = h.sums;
  order = whole_all (replies_of h.turns) h.whole;
  few = h.few;
  begun = λ short. absurd (cc (short, h.short));
  within = omega (arith, h.many, few);
  all = λ _. elim ends [ inl made ↦ inl (h.many ∙ made) | inr empty ↦ inr empty ];
}

-- a round ends before its last call where the line was empty or the call was short
pub round_ends : {S : Type 0} (did : S → List CallMade → S → Type 0) (then : Then did) (lacks : Type 0) (old : S) (before : List Parcel) (calls most capacity : ℕ) (mid new : Progress S) (more : Bool) → IsRoundSoFar did old before calls capacity mid → calls < most → more ≡ false → IsNextOf did mid more new → IsRoundIn did lacks old before most new.sum new.taken new.state
round_ends did then lacks old before calls most capacity mid new more h less ends (inl call) =
    let t : Turn = record { parcel = call.parcel; reply = call.reply } in
    let short : t.reply.short ≡ true = not_of t.reply.short false (sym ends ∙ call.goes_on) in
    let taken = taken_more before h.turns t mid.taken new.taken h.taken call.taken in
    record {
      turns = h.turns ++ t ∷ [];
      refused = None;
      made = one_more did then old mid.state new.state h.turns t h.made call.made;
      ends = λ some. cc some;
      taken = gains_nothing (before ++ parcels_of (h.turns ++ t ∷ [])) new.taken taken;
      kept = λ _. taken;
      cause = λ _. inl (record { front = h.turns; last = t; turns_are = refl; short = short });
      sums = subst (IsSumOf (replies_of (h.turns ++ t ∷ []))) (sym call.sum) (sums_turn h.turns mid.sum t h.sums h.whole);
      order = subst AreWholeButLast (replies_more h.turns t) (whole_but_last (replies_of h.turns) t.reply h.whole);
      few = omega (arith, h.few, call.one, ap (λ (q : RefineReply). q.taken) call.sum, length-append h.turns (t ∷ []));
      begun = λ _. omega (arith, length-append h.turns (t ∷ []));
      within = omega (arith, h.many, less, length-append h.turns (t ∷ []));
      all = λ whole. let here : new.sum.short ≡ true = ap (λ (q : RefineReply). q.short) call.sum ∙ short in absurd (cc (here, whole));
    }
round_ends did then lacks old before calls most capacity mid new more h less ends (inr none) =
    subst (λ p. IsRoundIn did lacks old before most p.sum p.taken p.state) (sym none.same)
    (round_stops did lacks old before calls most capacity mid h (omega (arith, less)) (inr (subst (λ p. FoundEmpty p.taken) none.same none.empty)))

-- a round that ends before its last call, since the next was refused or room for its cards was
round_cut : {S : Type 0} (did : S → List CallMade → S → Type 0) (lacks : Type 0) (old : S) (before : List Parcel) (calls most capacity : ℕ) (mid : Progress S) (reply : RefineReply) (after : List Parcel) (new : S) (h : IsRoundSoFar did old before calls capacity mid) → 1 ≤ calls → calls < most
    → (refused : Option Refusal) → did old (round_calls h.turns refused) new → GainsAtMost (before ++ parcels_of h.turns) 1 after → (IsNone refused → after ≡ before ++ parcels_of h.turns) → IsSome refused ⊎ (lacks × IsLastListed h.turns)
    → reply ≡ record { taken = mid.sum.taken; refined = mid.sum.refined; hot = mid.sum.hot; skipped = mid.sum.skipped; left = mid.sum.left; short = true } → IsRoundIn did lacks old before most reply after new
round_cut did lacks old before calls most capacity mid reply after new h some less refused made taken kept cause is =
    subst (λ q. IsRoundIn did lacks old before most q after new) (sym is) (record {
      turns = h.turns;
      refused = refused;
      made = made;
      ends = λ _. refl;
      taken = taken;
      kept = kept;
      cause = λ _. inr cause;
      sums = record { taken = h.sums.taken; refined = h.sums.refined; hot = h.sums.hot; skipped = h.sums.skipped; whole = λ _. h.whole };
      order = whole_all (replies_of h.turns) h.whole;
      few = h.few;
      begun = λ _. omega (arith, h.many, some);
      within = omega (arith, h.many, less);
      all = λ whole. absurd (cc whole);
    })

-- where the room that a turn had is no more there, the turn listed a card
last_listed : (turns : List Turn) (listed capacity : ℕ) → HadRoom turns listed capacity → capacity < listed + 256 → IsLastListed turns
last_listed turns listed capacity had lacking = record { front = had.front; last = had.last; turns_are = had.turns_are; listed = omega (arith, had.room, lacking) }

pub round_refused : {S : Type 0} (did : S → List CallMade → S → Type 0) (then : Then did) (lacks : Type 0) (old : S) (before : List Parcel) (calls most capacity : ℕ) (mid : Progress S) (reply : RefineReply) (after : List Parcel) (refusal : Refusal) (new : S) → IsRoundSoFar did old before calls capacity mid → 1 ≤ calls → calls < most
    → (lacks → capacity < length mid.sum.refined + 256) → IsRefused did lacks mid.state mid.taken refusal new after → reply ≡ record { taken = mid.sum.taken; refined = mid.sum.refined; hot = mid.sum.hot; skipped = mid.sum.skipped; left = mid.sum.left; short = true } → IsRoundIn did lacks old before most reply after new
round_refused did then lacks old before calls most capacity mid reply after refusal new h some less lacking (inl room) is =
    let taken = room.3 ∙ h.taken in
    round_cut did lacks old before calls most capacity mid reply after new h some less None (subst (λ s. did old (map turn_call h.turns) s) (sym room.2) h.made) (gains_nothing (before ++ parcels_of h.turns) after taken) (λ _. taken) (inr (room.1, last_listed h.turns (length mid.sum.refined) capacity (h.room some) (lacking room.1))) is
round_refused did then lacks old before calls most capacity mid reply after refusal new h some less lacking (inr call) is =
    round_cut did lacks old before calls most capacity mid reply after new h some less (Some refusal) (then old mid.state new (map turn_call h.turns) (Refused refusal ∷ []) h.made call.0) (subst (λ l. GainsAtMost l 1 after) h.taken call.1) (λ none. absurd (cc none)) (inl refl) is

cause_told : (turns : List Turn) (refused : Option Refusal) (lacks : Type 0) → IsLastShort turns ⊎ (IsSome refused ⊎ (lacks × IsLastListed turns)) → IsLastShort turns ⊎ (IsSome refused ⊎ (Unit {0} × IsLastListed turns))
cause_told turns refused lacks (inl last) = inl last
cause_told turns refused lacks (inr (inl some)) = inr (inl some)
cause_told turns refused lacks (inr (inr room)) = inr (inr (tt, room.1))

-- the same round, of whose list nothing is told
pub round_told : {S : Type 0} (did : S → List CallMade → S → Type 0) (lacks : Type 0) (old : S) (before : List Parcel) (most : ℕ) (reply : RefineReply) (after : List Parcel) (new : S) → IsRoundIn did lacks old before most reply after new → IsRound did old before most reply after new
round_told did lacks old before most reply after new h = record {
  turns = h.turns;
  refused = h.refused;
  made = h.made;
  ends = h.ends;
  taken = h.taken;
  kept = h.kept;
  cause = λ short. cause_told h.turns h.refused lacks (h.cause short);
  sums = h.sums;
  order = h.order;
  few = h.few;
  begun = h.begun;
  within = h.within;
  all = h.all;
}
