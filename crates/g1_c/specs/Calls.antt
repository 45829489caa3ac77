-- What an exported call tells by its word.
use Rattle.std.specs.Prelude.{◌≡◌, ◌<◌, ◌≤◌}
use Rattle.g1_c.specs.Prelude.{ℕ, Option, Result, Ok, Err, Reason, IsRefusal, refusal_word}

-- a call on a handle: its word, and what the handle held before it and holds after it
pub record Called (V : Type 0) : Type 0 where
  pub word : ℕ
  pub old : Option V
  pub new : Option V

abbrev pub called : {V : Type 0} → ℕ → Option V → Option V → Called V
called word old new = record { word = word; old = old; new = new }

-- Words up to `most` say what the call did. Any other one is that of a refusal for a reason: then
-- the call tells nothing else, and what the handle holds is as it was.
pub record IsMadeOrRefused {V : Type 0} (most : ℕ) (call : Called V) (Untold Does : Type 0)
    (Why : Reason → Type 0) : Type 0 where
  pub does : call.word ≤ most → Does
  pub untold : most < call.word → Untold
  pub why : most < call.word → IsRefusal call.word Why
  pub same : most < call.word → call.new ≡ call.old

-- What a question answers is written to the caller's `out`, and the word of the call is 0. One that
-- is refused tells nothing there.
abbrev pub Tells : {A : Type 0} → Result A Reason → ℕ → A → Type 0 → Type 0
Tells (Ok value) word told Untold = (word ≡ 0) × (told ≡ value)
Tells (Err refusal) word told Untold = (word ≡ refusal_word refusal) × (7 < word) × Untold

-- A question changes nothing. The word 0 says that what it told is its answer.
pub record IsTold {V A : Type 0} (call : Called V) (told : A) (Untold : Type 0)
    (Is : A → Type 0) (Why : Reason → Type 0) : Type 0 where
  pub answer : IsMadeOrRefused 0 call Untold (Is told) Why
  pub same : call.new ≡ call.old
