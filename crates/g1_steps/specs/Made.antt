-- Calls of one caller, as they were answered.
use Rattle.std.specs.Prelude.{◌≡◌, ◌∷◌, ◌++◌}
use Rattle.g1_steps.specs.Prelude.{ℕ, List, [], Option, Result, Ok, Err, sym, subst, StoreReply}
use Rattle.g1_steps.specs.Prelude.{RefineReply, Entry, store_entry, refine_entry, Refusal}

-- a store or a refinement with its answer, or a call that was refused
pub data CallMade : Type 0 where
  Stored : (slot : ℕ) (target : Option ℕ) (reply : StoreReply) → CallMade
  Refined : (buffer : Option (List ℕ)) (reply : RefineReply) → CallMade
  Refused : (refusal : Refusal) → CallMade

-- the call of a store, and of a refinement, by its result
abbrev pub stores : ℕ → Option ℕ → Result StoreReply Refusal → CallMade
stores slot target (Ok reply) = Stored slot target reply
stores slot target (Err refusal) = Refused refusal

abbrev pub refines : Option (List ℕ) → Result RefineReply Refusal → CallMade
refines buffer (Ok reply) = Refined buffer reply
refines buffer (Err refusal) = Refused refusal

-- the entries that calls make
abbrev pub entries_made : ℕ → List CallMade → List Entry
entries_made caller [] = []
entries_made caller (Stored slot target reply ∷ ms) =
    store_entry caller slot target reply ∷ entries_made caller ms
entries_made caller (Refined buffer reply ∷ ms) = refine_entry caller reply ∷ entries_made caller ms
entries_made caller (Refused refusal ∷ ms) = entries_made caller ms

-- These calls, one after the other, where `call` says what one of them does.
abbrev pub AreCalls : {S : Type 0} → (S → CallMade → S → Type 0) → S → List CallMade → S → Type 0
AreCalls call old [] new = new ≡ old
AreCalls call old (m ∷ []) new = call old m new
AreCalls {S} call old (m ∷ n ∷ ms) new = (mid : S) × call old m mid × AreCalls call mid (n ∷ ms) new

pub calls_then : {S : Type 0} (call : S → CallMade → S → Type 0) (old mid new : S)
    (xs ys : List CallMade) → AreCalls call old xs mid → AreCalls call mid ys new
    → AreCalls call old (xs ++ ys) new
calls_then call old mid new [] ys h k = subst (λ b. AreCalls call b ys new) h k
calls_then call old mid new (x ∷ []) [] h k = subst (call old x) (sym k) h
calls_then call old mid new (x ∷ []) (y ∷ ys) h k = (mid, h, k)
calls_then call old mid new (x ∷ z ∷ xs) ys h k =
    (h.0, h.1, calls_then call h.0 mid new (z ∷ xs) ys h.2 k)
