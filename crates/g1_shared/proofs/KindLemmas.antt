-- What is known of the kind of a store under a lock.
use Rattle.std.specs.Prelude.{◌≡◌, ◌∷◌}
use Rattle.g1_shared.specs.{ℕ, Bool, List, Option, Some, None, refl, sym, ap, subst, ◌∙◌, Result, Ok, Err, IfOk, Shape, Kind, StoreReply, kind_of, Refusal, History, BookTerms, table_in, SharedTerms, CallMade, Stored, Help, IsStored, help_calls, store_answer, IsKindAt, AreAnswersAt, IsRunTo, Entry}

-- the kind of a store at a counted book
pub kind_at : (keeps : Bool) (terms : SharedTerms) (es : List Entry) (h : History) (slot : ℕ) (target : Option ℕ) (kind : Kind)
    → IsRunTo keeps terms es h → kind ≡ kind_of (table_in h) slot target → IsKindAt terms.layout slot target kind
kind_at keeps terms es h slot target kind was is = (table_in h, ap (λ (t : BookTerms). t.layout) was.kept, is)

answer_kind : (first : StoreReply) (help : Help) → (store_answer first help).kind ≡ first.kind
answer_kind first None = refl
answer_kind first (Some (Ok reply)) = refl
answer_kind first (Some (Err refusal)) = refl

-- a store's reply has the kind of its own call
pub store_kind : {S : Type 0} (did : S → List CallMade → S → Type 0) (layout : Shape) (old new : S) (slot : ℕ) (target : Option ℕ) (cards : List ℕ) (r : Result StoreReply Refusal)
    → ((ms : List CallMade) → did old ms new → AreAnswersAt layout ms) → IfOk r (λ reply. IsStored did old slot target cards reply new)
    → IfOk r (λ reply. IsKindAt layout slot target reply.kind)
store_kind did layout old new slot target cards (Err refusal) told h = tt
store_kind did layout old new slot target cards (Ok reply) told h =
    let same : reply.kind ≡ h.first.kind = ap (λ (x : StoreReply). x.kind) h.answer ∙ answer_kind h.first h.help in
    subst (IsKindAt layout slot target) (sym same) (told (Stored slot target h.first ∷ help_calls cards h.help) h.made).0
