-- What the steps add up to.
use Rattle.std.specs.Prelude.{◌≡◌, ◌+◌, ◌≤◌, ◌∷◌, ◌++◌, if◌then◌else◌}
use Rattle.g1_steps.specs.{ℕ, Bool, true, false, List, [], Option, Some, None, refl, sym, subst, ap, ◌∙◌, inl, inr, arith, append_assoc, append-nil, length, length-append, map, nat_lt, SameRegion, Null, AlreadyDirty, Logged, Parcel, Ok, Err, IsNone, IsSome, MatchOption, taken_of, WasEmpty, Taker, buffer_of, Full, StoreReply, Entry, store_entry, refine_entry, History, IsEntered, Refusal, CallMade, Stored, Refined, Refused, AreCalls, entries_made, Grows, IsBookCall, Turn, round_calls, replies_of, Help, passed, filled, store_answer, GainsAtMost, Empties}
use Rattle.g1_layout.specs.declared.kind.Kind.{Kind}
use Rattle.g1_log.specs.Log.{Cards}

handed_by : (less : Bool) (cards : List ℕ) (place : Option (List ℕ)) → place ≡ (if less then None else Some cards) → IsSome place → place ≡ Some cards
handed_by true cards place is some = absurd (cc (subst IsSome is some))
handed_by false cards place is some = is

-- a log hands out a buffer only to a logged store, with the store's card last
pub handed_some : (kind : Kind) (log : Cards) (card : ℕ) (place : Option (List ℕ)) → place ≡ buffer_of kind log card → IsSome place → (kind ≡ Logged) × (place ≡ Some (log.cards ++ card ∷ []))
handed_some Logged log card place is some = (refl, handed_by (nat_lt (length log.cards + 1) log.size) (log.cards ++ card ∷ []) place is some)
handed_some SameRegion log card place is some = absurd (cc (subst IsSome is some))
handed_some Null log card place is some = absurd (cc (subst IsSome is some))
handed_some AlreadyDirty log card place is some = absurd (cc (subst IsSome is some))

-- what a store that filled its log answers
pub store_passed : (first : StoreReply) (help : Help) → first ≡ filled → record { kind = first.kind; fill = (passed help).fill; refined = (passed help).refined; short = (passed help).short } ≡ store_answer first help
store_passed first None is = subst (λ (r : StoreReply). record { kind = r.kind; fill = Full; refined = []; short = false } ≡ r) (sym is) refl
store_passed first (Some (Ok reply)) is = refl
store_passed first (Some (Err refusal)) is = refl

-- how a history grows
pub grows_none : (h : History) → Grows h [] h
grows_none h = record { entries = sym (append-nil h.entries); terms = refl }

pub grows_entered : (old : History) (e : Entry) (new : History) → IsEntered old e new → Grows old (e ∷ []) new
grows_entered old e new h = record { entries = h.entries; terms = h.terms }

grows_unchanged : (old new : History) → new ≡ old → Grows old [] new
grows_unchanged old new same = subst (λ b. Grows old [] b) (sym same) (grows_none old)

pub grows_then : (a b c : History) (es fs : List Entry) → Grows a es b → Grows b fs c → Grows a (es ++ fs) c
grows_then a b c es fs g h = record { entries = h.entries ∙ ap (λ xs. xs ++ fs) g.entries ∙ append_assoc a.entries es fs; terms = h.terms ∙ g.terms }

-- the entries of a call, and of some
call_grows : (caller : ℕ) (old new : History) (m : CallMade) → IsBookCall caller old m new → Grows old (entries_made caller (m ∷ [])) new
call_grows caller old new (Stored slot target reply) h = grows_entered old (store_entry caller slot target reply) new h.0.entered
call_grows caller old new (Refined buffer reply) h = grows_entered old (refine_entry caller reply) new h.0.entered
call_grows caller old new (Refused refusal) h = grows_unchanged old new h.0

entries_more : (caller : ℕ) (m : CallMade) (ms : List CallMade) → entries_made caller (m ∷ []) ++ entries_made caller ms ≡ entries_made caller (m ∷ ms)
entries_more caller (Stored slot target reply) ms = refl
entries_more caller (Refined buffer reply) ms = refl
entries_more caller (Refused refusal) ms = refl

pub calls_grow : (caller : ℕ) (old new : History) (ms : List CallMade) → AreCalls (IsBookCall caller) old ms new → Grows old (entries_made caller ms) new
calls_grow caller old new [] h = grows_unchanged old new h
calls_grow caller old new (m ∷ []) h = call_grows caller old new m h
calls_grow caller old new (m ∷ n ∷ ms) h = subst (λ es. Grows old es new) (entries_more caller m (n ∷ ms)) (grows_then old h.0 new (entries_made caller (m ∷ [])) (entries_made caller (n ∷ ms)) (call_grows caller old h.0 m h.1) (calls_grow caller h.0 new (n ∷ ms) h.2))

-- the entries of a round
pub round_entries : (caller : ℕ) (turns : List Turn) (refused : Option Refusal) → entries_made caller (round_calls turns refused) ≡ map (refine_entry caller) (replies_of turns)
round_entries caller [] None = refl
round_entries caller [] (Some refusal) = refl
round_entries caller (t ∷ ts) None = ap (λ es. refine_entry caller t.reply ∷ es) (round_entries caller ts None)
round_entries caller (t ∷ ts) (Some refusal) = ap (λ es. refine_entry caller t.reply ∷ es) (round_entries caller ts (Some refusal))

pub gains_nothing : (xs ys : List Parcel) → ys ≡ xs → GainsAtMost xs 1 ys
gains_nothing xs ys is = record { parcels = []; gained = is ∙ sym (append-nil xs); few = omega arith }

pub gains_single : (xs ys : List Parcel) (x : Parcel) → ys ≡ xs ++ x ∷ [] → GainsAtMost xs 1 ys
gains_single xs ys x is = record { parcels = x ∷ []; gained = is; few = omega arith }

-- A taker's list has gained just this many parcels.
pub record GainsJust (old : List Parcel) (count : ℕ) (new : List Parcel) : Type 0 where
  pub parcels : List Parcel
  pub gained : new ≡ old ++ parcels
  pub many : length parcels ≡ count

pub gains_no_more : (xs : List Parcel) → GainsJust xs 0 xs
gains_no_more xs = record { parcels = []; gained = sym (append-nil xs); many = refl }

pub gains_one_more : (xs ys zs : List Parcel) (x : Parcel) (n : ℕ) → GainsJust xs n ys → zs ≡ ys ++ x ∷ [] → GainsJust xs (n + 1) zs
gains_one_more xs ys zs x n h is = record {
  parcels = h.parcels ++ x ∷ [];
  gained = is ∙ ap (λ l. l ++ x ∷ []) h.gained ∙ append_assoc xs h.parcels (x ∷ []);
  many = omega (arith, length-append h.parcels (x ∷ []), h.many);
}

-- a taker that took as many as the line holds, or found it empty, has emptied it
pub empties_full : (xs ys : List Parcel) (n most : ℕ) → GainsJust xs n ys → n ≡ most → Empties xs most ys
empties_full xs ys n most h is = record { parcels = h.parcels; gained = h.gained; few = omega (arith, h.many, is); ends = inl (h.many ∙ is) }

pub empties_found : (xs ys zs : List Parcel) (taker : Taker) (n most : ℕ) → GainsJust xs n ys → n ≤ most → taken_of taker ≡ ys → WasEmpty taker → zs ≡ ys → Empties xs most zs
empties_found xs ys zs taker n most h less has empty is = record {
  parcels = h.parcels;
  gained = is ∙ h.gained;
  few = omega (arith, h.many, less);
  ends = inr (record { taker = taker; has = has ∙ sym is; empty = empty });
}

-- a take that gave nothing
pub took_none : (r : Option Parcel) (P : Type 0) (Q : Parcel → Type 0) → IsNone r → MatchOption r P Q → P
took_none None P Q none h = h
took_none (Some x) P Q none h = absurd (cc none)

-- what emptying the queue cites together
pub ruleset of_a_take = (gains_no_more, gains_one_more, empties_full, empties_found)
