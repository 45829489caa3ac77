-- The answers of calls under a lock: of the state there only the heap is known.
use Rattle.std.specs.Prelude.{◌≡◌, ◌∷◌, ◌++◌}
use Rattle.g1_shared.specs.Prelude.{ℕ, List, [], Option, Shape, Kind, State, Table, kind_of}
use Rattle.g1_shared.specs.Prelude.{RefineReply, CallMade, Stored, Refined, Refused}
use Rattle.g1_core.specs.Refinement.{IsRefined}

-- The kind is that of such a store at some table of this heap: null or within a region where the
-- store is, and else dirty or logged.
abbrev pub IsKindAt : Shape → ℕ → Option ℕ → Kind → Type 0
IsKindAt layout slot target kind =
    (t : Table) × (t.layout ≡ layout) × (kind ≡ kind_of t slot target)

-- The reply is that of refining such a buffer, or none, from some state of this heap.
abbrev pub IsReplyAt : Shape → Option (List ℕ) → RefineReply → Type 0
IsReplyAt layout buffer reply =
    (s t : State) × (s.table.layout ≡ layout) × IsRefined s buffer reply t

-- each store among these calls has such a kind, and each refinement such a reply
abbrev pub AreAnswersAt : Shape → List CallMade → Type 0
AreAnswersAt layout [] = Unit {0}
AreAnswersAt layout (Stored slot target reply ∷ ms) =
    IsKindAt layout slot target reply.kind × AreAnswersAt layout ms
AreAnswersAt layout (Refined buffer reply ∷ ms) =
    IsReplyAt layout buffer reply × AreAnswersAt layout ms
AreAnswersAt layout (Refused refusal ∷ ms) = AreAnswersAt layout ms

pub answers_then : (layout : Shape) (xs ys : List CallMade) → AreAnswersAt layout xs
    → AreAnswersAt layout ys → AreAnswersAt layout (xs ++ ys)
answers_then layout [] ys h k = k
answers_then layout (Stored slot target reply ∷ xs) ys h k = (h.0, answers_then layout xs ys h.1 k)
answers_then layout (Refined buffer reply ∷ xs) ys h k = (h.0, answers_then layout xs ys h.1 k)
answers_then layout (Refused refusal ∷ xs) ys h k = answers_then layout xs ys h k
