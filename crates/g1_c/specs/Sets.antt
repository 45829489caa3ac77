-- What the exported calls tell that list a set or empty it.
use Rattle.std.specs.Prelude.{◌≡◌, ◌≢◌, ◌<◌}
use Rattle.g1_c.specs.Prelude.{ℕ, List, take, IsWritten, Reason, IsRefusal, ClearReply, Cleared}
use Rattle.g1_c.specs.Prelude.{Pending, StillReferenced, HasFirst, HeapHandle, Pause, IsSameHeap}
use Rattle.g1_c.specs.Prelude.{IsHeapRefused, LacksRegion}
use Rattle.g1_c.specs.Calls.{Called, called}

-- the caller's array before a call and after it, and how many cards it is told of
pub record Listing : Type 0 where
  pub old : List ℕ
  pub new : List ℕ
  pub count : ℕ

abbrev pub listing : List ℕ → List ℕ → ℕ → Listing
listing old new count = record { old = old; new = new; count = count }

-- The word 0 says that the array has the cards, and 16 that it lacks room for them. Any other one
-- is that of a refusal: then no card is told, and the array and the handle are as they were.
pub record IsListed {V : Type 0} (call : Called V) (array : Listing) (All First : Type 0)
    (Why : Reason → Type 0) : Type 0 where
  pub all : call.word ≡ 0 → All
  pub written : call.word ≡ 0 → IsWritten array.old array.count array.new
  pub first : call.word ≡ 16 → First
  pub why : 0 < call.word → call.word ≢ 16 → IsRefusal call.word Why
  pub none : 0 < call.word → call.word ≢ 16 → array.count ≡ 0
  pub unwritten : 0 < call.word → call.word ≢ 16 → array.new ≡ array.old
  pub same : 0 < call.word → call.word ≢ 16 → call.new ≡ call.old

-- the cards of a region that are so of a heap before and after a call, or the first of them
abbrev pub ListsOfHeap : ℕ → HeapHandle → HeapHandle → Listing
    → (Pause → Pause → List ℕ → Type 0) → ℕ → Type 0
ListsOfHeap word h h' array AreSo region = IsListed (called word h.value h'.value) array
    (IsSameHeap h.value h'.value (λ old new. AreSo old new (take array.count array.new)))
    (IsSameHeap h.value h'.value (λ old new. HasFirst (AreSo old new) array.new array.count))
    (IsHeapRefused h.value (λ old. LacksRegion old.layout region))

-- A clear got a reply: the word 0 says that it was granted, and 19 and 20 what speaks against it,
-- with a number. Any other word is that of a refusal, and tells no number.
pub record IsCleared {V : Type 0} (call : Called V) (number : ℕ) (Clears : ClearReply → Type 0)
    (Why : Reason → Type 0) : Type 0 where
  pub cleared : call.word ≡ 0 → Clears Cleared
  pub pending : call.word ≡ 19 → Clears (Pending number)
  pub referenced : call.word ≡ 20 → Clears (StillReferenced number)
  pub none : call.word ≢ 19 → call.word ≢ 20 → number ≡ 0
  pub why : 0 < call.word → call.word ≢ 19 → call.word ≢ 20 → IsRefusal call.word Why

-- a clear of a heap at a pause, which changes nothing unless it is granted
pub record ClearsOnHeap (word : ℕ) (old new : HeapHandle) (number : ℕ)
    (Clears : Pause → ClearReply → Pause → Type 0) (Why : Pause → Reason → Type 0) : Type 0 where
  pub cleared : IsCleared (called word old.value new.value) number
      (λ reply. IsSameHeap old.value new.value (λ old new. Clears old reply new))
      (IsHeapRefused old.value Why)
  pub same : 0 < word → new.value ≡ old.value
