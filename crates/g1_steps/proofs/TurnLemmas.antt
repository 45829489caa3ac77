-- One more turn of a round: its sums, its order, its calls and its parcels.
use Rattle.std.specs.Prelude.{◌≡◌, ◌∷◌, ◌++◌}
use Rattle.g1_steps.specs.{suc, Bool, true, false, not, List, [], map, sym, subst, ap, ◌∙◌, arith, append_assoc, append-nil, All, flat_map, map-append, All-push, Parcel, RefineReply, CallMade, Turn, turn_call, IsSumOf, replies_of, parcels_of, AreWholeButLast, sums_with}
use Rattle.std.proofs.lemmas.List.Sums.{sum_by-append}
use Rattle.std.proofs.lemmas.Grind.{flat_map-append}

-- one more call adds up
pub sums_more : (rs : List RefineReply) (sum r : RefineReply) → IsSumOf rs sum → All (λ q. q.short ≡ false) rs → IsSumOf (rs ++ r ∷ []) (sums_with sum r)
sums_more rs sum r h all = record {
  taken = omega (arith, h.taken, sum_by-append (λ (q : RefineReply). q.taken) rs (r ∷ []));
  refined = ap (λ l. l ++ r.refined) h.refined ∙ sym (flat_map-append (λ (q : RefineReply). q.refined) rs (r ∷ []) ∙ ap (λ l. flat_map (λ (q : RefineReply). q.refined) rs ++ l) (append-nil r.refined));
  hot = omega (arith, h.hot, sum_by-append (λ (q : RefineReply). q.hot) rs (r ∷ []));
  skipped = omega (arith, h.skipped, sum_by-append (λ (q : RefineReply). q.skipped) rs (r ∷ []));
  whole = λ here. All-push (λ q. q.short ≡ false) rs r all here;
}

pub whole_all : (rs : List RefineReply) → All (λ q. q.short ≡ false) rs → AreWholeButLast rs
whole_all [] all = tt
whole_all (x ∷ []) all = tt
whole_all (x ∷ y ∷ ys) all = (all 0 x (omega arith), whole_all (y ∷ ys) (λ k d lt. all (suc k) d (omega arith)))

pub whole_but_last : (rs : List RefineReply) (r : RefineReply) → All (λ q. q.short ≡ false) rs → AreWholeButLast (rs ++ r ∷ [])
whole_but_last [] r all = tt
whole_but_last (x ∷ []) r all = (all 0 x (omega arith), tt)
whole_but_last (x ∷ y ∷ ys) r all = (all 0 x (omega arith), whole_but_last (y ∷ ys) r (λ k d lt. all (suc k) d (omega arith)))

-- the same of turns
pub replies_more : (ts : List Turn) (t : Turn) → replies_of ts ++ t.reply ∷ [] ≡ replies_of (ts ++ t ∷ [])
replies_more ts t = sym (map-append (λ (q : Turn). q.reply) ts (t ∷ []))

pub sums_turn : (ts : List Turn) (sum : RefineReply) (t : Turn) → IsSumOf (replies_of ts) sum → All (λ r. r.short ≡ false) (replies_of ts) → IsSumOf (replies_of (ts ++ t ∷ [])) (sums_with sum t.reply)
sums_turn ts sum t h all = subst (λ l. IsSumOf l (sums_with sum t.reply)) (replies_more ts t) (sums_more (replies_of ts) sum t.reply h all)

pub not_of : (b more : Bool) → more ≡ not b → b ≡ not more
not_of true more h = ap not (sym h)
not_of false more h = ap not (sym h)

-- calls after calls are calls
abbrev pub Then : {S : Type 0} → (S → List CallMade → S → Type 0) → Type 0
Then {S} did = (s t u : S) (xs ys : List CallMade) → did s xs t → did t ys u → did s (xs ++ ys) u

-- a round with one more call
pub one_more : {S : Type 0} (did : S → List CallMade → S → Type 0) (then : Then did) (old mid new : S) (ts : List Turn) (t : Turn) → did old (map turn_call ts) mid → did mid (turn_call t ∷ []) new → did old (map turn_call (ts ++ t ∷ [])) new
one_more did then old mid new ts t p q = subst (λ ms. did old ms new) (sym (map-append turn_call ts (t ∷ []))) (then old mid new (map turn_call ts) (turn_call t ∷ []) p q)

pub taken_more : (before : List Parcel) (ts : List Turn) (t : Turn) (mid new : List Parcel) → mid ≡ before ++ parcels_of ts → new ≡ mid ++ t.parcel ∷ [] → new ≡ before ++ parcels_of (ts ++ t ∷ [])
taken_more before ts t mid new was is =
    is ∙ ap (λ l. l ++ t.parcel ∷ []) was ∙ append_assoc before (parcels_of ts) (t.parcel ∷ []) ∙ ap (λ l. before ++ l) (sym (map-append (λ (q : Turn). q.parcel) ts (t ∷ [])))
