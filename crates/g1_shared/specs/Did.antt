-- What the calls of a worker leave behind at a desk of a shared book.
use Rattle.std.specs.Prelude.{◌≡◌, ◌+◌, ◌≤◌, ◌∷◌, ◌++◌}
use Rattle.g1_shared.specs.Prelude.{ℕ, Bool, cond, List, [], count_by, sum_by, refl, sym, ap, subst}
use Rattle.g1_shared.specs.Prelude.{◌∙◌, arith, append-nil, append_assoc, length-append}
use Rattle.g1_shared.specs.Prelude.{sum_by-append, Ask, AskStore, AskFlush, AskWork, is_store_ask}
use Rattle.g1_shared.specs.Prelude.{GainsAtMost, Shape, HasServed, served_then}
use Rattle.g1_shared.specs.Counts.{CountsDid, counts_did_then, did_nothing, made_by, stored_by}
use Rattle.g1_shared.specs.Callers.{CallerState, MakesFor, caller_mark, mutator_log, taken_list}

-- how many entries are made for a call at most, where a round makes at most `limit`
abbrev pub most_for : ℕ → Ask → ℕ
most_for limit (AskStore slot target) = 2
most_for limit AskFlush = 1
most_for limit AskWork = limit

-- a flush leaves an empty log
abbrev pub Leaves : Ask → CallerState → Type 0
Leaves AskFlush t = (mutator_log t.mutator).cards ≡ []
Leaves (AskStore slot target) t = Unit {0}
Leaves AskWork t = Unit {0}

-- what the last of these calls leaves, or `none` where there are none
abbrev pub LeftBy : Type 0 → List Ask → CallerState → Type 0
LeftBy none [] t = none
LeftBy none (a ∷ asks) t = LeftBy (Leaves a t) asks t

-- With no calls, log and sender are as before; if the last call was a flush, the log is empty.
abbrev pub LeavesLog : CallerState → List Ask → CallerState → Type 0
LeavesLog s asks t = LeftBy (t.mutator ≡ s.mutator) asks t

leaves_same : (a : Ask) (t u : CallerState) → u.mutator ≡ t.mutator → Leaves a t → Leaves a u
leaves_same AskFlush t u e h = ap (λ m. (mutator_log m).cards) e ∙ h
leaves_same (AskStore slot target) t u e h = tt
leaves_same AskWork t u e h = tt

left_then : (P Q : Type 0) (t u : CallerState) (xs ys : List Ask) → (u.mutator ≡ t.mutator → P → Q)
    → LeftBy P xs t → LeavesLog t ys u → LeftBy Q (xs ++ ys) u
left_then P Q t u [] [] same h k = same k h
left_then P Q t u [] (y ∷ ys) same h k = k
left_then P Q t u (x ∷ xs) ys same h k =
    left_then (Leaves x t) (Leaves x u) t u xs ys (leaves_same x t u) h k

-- A caller made the calls that serve what it was asked, each of which is an entry, and it is the
-- same caller. At most two are made for a store, one for a flush, and one for each parcel that its
-- taker gained.
pub record CallerDid (layout : Shape) (limit : ℕ) (s : CallerState) (asks : List Ask)
    (t : CallerState) : Type 0 where
  pub mark : caller_mark t ≡ caller_mark s
  pub served : HasServed (CountsDid layout) s.counts asks t.counts
  pub stored : stored_by t.counts ≡ stored_by s.counts + count_by is_store_ask asks
  pub log : LeavesLog s asks t
  pub most : made_by t.counts ≤ made_by s.counts + sum_by (most_for limit) asks
  pub each : MakesFor (made_by s.counts + sum_by (most_for 0) asks) (taken_list s)
      (made_by t.counts) (taken_list t)

count_more : {X : Type 0} (p : X → Bool) (xs ys : List X)
    → count_by p (xs ++ ys) ≡ count_by p xs + count_by p ys
count_more p xs ys = sum_by-append (λ x. cond (p x) 1 0) xs ys

pub caller_did_none : (layout : Shape) (limit : ℕ) (s : CallerState)
    → CallerDid layout limit s [] s
caller_did_none layout limit s = record {
  mark = refl;
  served = record { calls = []; made = (did_nothing s.counts, tt); serves = refl };
  stored = omega arith;
  log = refl;
  most = omega arith;
  each = record { parcels = []; gained = sym (append-nil (taken_list s)); within = omega arith };
}

pub caller_did_then : (layout : Shape) (limit : ℕ) (s t u : CallerState) (xs ys : List Ask)
    → CallerDid layout limit s xs t → CallerDid layout limit t ys u
    → CallerDid layout limit s (xs ++ ys) u
caller_did_then layout limit s t u xs ys p q = record {
  mark = q.mark ∙ p.mark;
  served = served_then (CountsDid layout) (counts_did_then layout) s.counts t.counts u.counts xs ys
      p.served q.served;
  stored = omega (arith, p.stored, q.stored, count_more is_store_ask xs ys);
  log = left_then (t.mutator ≡ s.mutator) (u.mutator ≡ s.mutator) t u xs ys (λ e h. e ∙ h) p.log
      q.log;
  most = omega (arith, p.most, q.most, sum_by-append (most_for limit) xs ys);
  each = record {
    parcels = p.each.parcels ++ q.each.parcels;
    gained = q.each.gained ∙ ap (λ l. l ++ q.each.parcels) p.each.gained
        ∙ append_assoc (taken_list s) p.each.parcels q.each.parcels;
    within = omega (
      arith,
      p.each.within,
      q.each.within,
      sum_by-append (most_for 0) xs ys,
      length-append p.each.parcels q.each.parcels,
    );
  };
}

-- What was asked of a caller is refused: a store leaves the caller as it was, and a round makes no
-- entry and gives up at most one parcel. A flush never is.
abbrev pub IsRefusedAt : CallerState → Ask → CallerState → Type 0
IsRefusedAt s (AskStore slot target) t = t ≡ s
IsRefusedAt s AskFlush t = ⊥
IsRefusedAt s AskWork t =
    (t.counts ≡ s.counts) × (t.mutator ≡ s.mutator) × GainsAtMost (taken_list s) 1 (taken_list t)

-- What a caller made, at a desk whose line stays of one capacity.
abbrev pub DeskDid : Shape → ℕ → CallerState → List Ask → ℕ → CallerState → Type 0
DeskDid layout limit s asks limit' t = (limit' ≡ limit) × CallerDid layout limit s asks t

pub desk_did_then : (layout : Shape) (l m n : ℕ) (s t u : CallerState) (xs ys : List Ask)
    → DeskDid layout l s xs m t → DeskDid layout m t ys n u → DeskDid layout l s (xs ++ ys) n u
desk_did_then layout l m n s t u xs ys p q =
    let P : ℕ → Type 0 = λ k. CallerDid layout k t ys u in
    (q.0 ∙ p.0, caller_did_then layout l s t u xs ys p.1 (subst P p.0 q.1))
