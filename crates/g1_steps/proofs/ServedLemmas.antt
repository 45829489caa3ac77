-- Which steps serve what a worker asked for.
use Rattle.std.specs.Prelude.{◌≡◌, ◌∷◌}
use Rattle.g1_core.specs.declared.reply.Fill.{Fill}
use Rattle.g1_steps.specs.{ℕ, List, [], Option, Some, None, refl, sym, subst, inl, inr, append-nil, filter, Ok, Err, Parcel, StoreReply, RefineReply, Refusal, FlushReply, CallMade, Stored, Help, help_calls, IsStored, IsFlushed, Turn, round_calls, IsRound, AskStore, AskFlush, AskWork, was_made, AreRefinements, IsHelp, IsHelpBehind, Serves, HasServed, IsSome, No, Full, Helped}
use Rattle.g1_steps.specs.Ask.{Ask}

-- one thing that was asked for, served by these calls
served_one : {S : Type 0} (did : S → List CallMade → S → Type 0) (s t : S) (ask : Ask) (calls : List CallMade) → did s calls t → Serves ask (filter was_made calls) → HasServed did s (ask ∷ []) t
served_one did s t ask calls made serves = record { calls = calls; made = made; serves = (filter was_made calls, [], sym (append-nil (filter was_made calls)), serves, refl) }

helped : (cards : List ℕ) (help : Help) → IsHelp (filter was_made (help_calls cards help))
helped cards None = tt
helped cards (Some (Ok reply)) = tt
helped cards (Some (Err refusal)) = tt

helped_behind : (cards : List ℕ) (fill : Fill) (help : Help) → (IsSome help → fill ≡ Full) → IsHelpBehind fill (filter was_made (help_calls cards help))
helped_behind cards Full help full = helped cards help
helped_behind cards No None full = refl
helped_behind cards No (Some result) full = absurd (cc (full refl))
helped_behind cards Helped None full = refl
helped_behind cards Helped (Some result) full = absurd (cc (full refl))

pub served_store : {S : Type 0} (did : S → List CallMade → S → Type 0) (s : S) (slot : ℕ) (target : Option ℕ) (cards : List ℕ) (reply : StoreReply) (t : S) → IsStored did s slot target cards reply t → HasServed did s (AskStore slot target ∷ []) t
served_store did s slot target cards reply t h = served_one did s t (AskStore slot target) (Stored slot target h.first ∷ help_calls cards h.help) h.made (refl, refl, helped_behind cards h.first.fill h.help h.helps)

pub served_flush : {S : Type 0} (did : S → List CallMade → S → Type 0) (s : S) (cards : List ℕ) (reply : FlushReply) (t : S) → did s [] s → IsFlushed did s cards reply t → HasServed did s (AskFlush ∷ []) t
served_flush did s cards reply t none (inl h) = subst (HasServed did s (AskFlush ∷ [])) (sym h.2) (served_one did s s AskFlush [] none tt)
served_flush did s cards reply t none (inr h) = served_one did s t AskFlush (help_calls cards h.help) h.made (helped cards h.help)

refinements : (turns : List Turn) (refused : Option Refusal) → AreRefinements (filter was_made (round_calls turns refused))
refinements [] None = tt
refinements [] (Some refusal) = tt
refinements (x ∷ xs) None = refinements xs None
refinements (x ∷ xs) (Some refusal) = refinements xs (Some refusal)

pub served_round : {S : Type 0} (did : S → List CallMade → S → Type 0) (s : S) (before : List Parcel) (most : ℕ) (reply : RefineReply) (after : List Parcel) (t : S) → IsRound did s before most reply after t → HasServed did s (AskWork ∷ []) t
served_round did s before most reply after t h = served_one did s t AskWork (round_calls h.turns h.refused) h.made (refinements h.turns h.refused)
