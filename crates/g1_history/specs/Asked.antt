-- The calls that a book can be asked by their values alone, and what comes of one.
use Rattle.g1_history.specs.Prelude.{ℕ, Bool, List, Shape, Call, Store, Refine, Reply, Entry}
use Rattle.g1_history.specs.Prelude.{IsCallOf, DoesAsked, IfOk, Result}
use Rattle.g1_history.specs.History.{History, Made, RefusesBy}
use Rattle.g1_history.specs.declared.refusal.Refusal.{Refusal}

-- The call is neither a store nor a refinement, and its numbers are of the layout.
abbrev pub IsAsked : Shape → Call → Type 0
IsAsked l (Store slot target) = ⊥
IsAsked l Refine = ⊥
IsAsked l call = IsCallOf l call

-- the entry of such a call
abbrev pub asked_entry : ℕ → Call → Reply → List ℕ → Entry
asked_entry caller call reply cards =
    record { caller = caller; call = call; reply = reply; refined = cards }

-- The caller's call was made and entered, once, with this reply, and did its work.
abbrev pub MadeAsked : Bool → History → ℕ → Call → Reply → History → Type 0
MadeAsked keeps old caller call reply new =
    (cards : List ℕ)
    × Made keeps old (asked_entry caller call reply cards) (DoesAsked call reply cards) new

-- Such a call was entered with its reply and did its work, or it was refused.
pub record MakesAsked (keeps : Bool) (old : History) (caller : ℕ) (call : Call)
    (result : Result Reply Refusal) (new : History) : Type 0 where
  pub made : IfOk result (λ reply. MadeAsked keeps old caller call reply new)
  pub err : RefusesBy keeps old result new
