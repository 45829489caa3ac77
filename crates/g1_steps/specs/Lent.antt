-- What calls do to a book that is lent.
use Rattle.std.specs.Prelude.{◌≡◌, ◌↔◌, ◌∷◌, ◌++◌}
use Rattle.g1_steps.specs.Prelude.{ℕ, Bool, true, List, [], ◌∙◌, ap, Entry, store_entry}
use Rattle.g1_steps.specs.Prelude.{refine_entry, DoesStore, DoesRefine, BookFull, History}
use Rattle.g1_steps.specs.Prelude.{Made, IsFull, terms_of}
use Rattle.g1_steps.specs.Made.{CallMade, Stored, Refined, Refused, AreCalls}

-- The history has just these entries more, on the same terms.
pub record Grows (old : History) (es : List Entry) (new : History) : Type 0 where
  pub entries : new.entries ≡ old.entries ++ es
  pub terms : terms_of new ≡ terms_of old

-- One call of this caller at a book: it was entered and did its work, or it was refused, for a full
-- history or otherwise, and changed nothing.
abbrev pub IsBookCallBy : Bool → ℕ → History → CallMade → History → Type 0
IsBookCallBy keeps caller old (Stored slot target reply) new =
    Made keeps old (store_entry caller slot target reply) (DoesStore slot target reply) new
    × (IsFull keeps old → ⊥)
IsBookCallBy keeps caller old (Refined buffer reply) new =
    Made keeps old (refine_entry caller reply) (DoesRefine buffer reply) new
    × (IsFull keeps old → ⊥)
IsBookCallBy keeps caller old (Refused refusal) new =
    (new ≡ old) × ((refusal ≡ BookFull) ↔ IsFull keeps old)

-- the same at a book that keeps its entries
abbrev pub IsBookCall : ℕ → History → CallMade → History → Type 0
IsBookCall = IsBookCallBy true

book_call_stays : (keeps : Bool) (caller : ℕ) (old new : History) (m : CallMade)
    → IsBookCallBy keeps caller old m new → terms_of new ≡ terms_of old
book_call_stays keeps caller old new (Stored slot target reply) h = h.0.entered.terms
book_call_stays keeps caller old new (Refined buffer reply) h = h.0.entered.terms
book_call_stays keeps caller old new (Refused refusal) h = ap terms_of h.0

-- no call of a book changes its terms
pub book_calls_stay : (keeps : Bool) (caller : ℕ) (old new : History) (ms : List CallMade)
    → AreCalls (IsBookCallBy keeps caller) old ms new → terms_of new ≡ terms_of old
book_calls_stay keeps caller old new [] h = ap terms_of h
book_calls_stay keeps caller old new (m ∷ []) h = book_call_stays keeps caller old new m h
book_calls_stay keeps caller old new (m ∷ n ∷ ms) h =
    book_calls_stay keeps caller h.0 new (n ∷ ms) h.2 ∙ book_call_stays keeps caller old h.0 m h.1
