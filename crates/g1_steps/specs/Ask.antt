-- What a worker asks of its desk, and what comes of it.
use Rattle.std.specs.Prelude.{◌≡◌, ◌<◌, ◌∷◌, ◌++◌}
use Rattle.g1_steps.specs.Prelude.{ℕ, Bool, true, false, List, [], length, map, replicate, take}
use Rattle.g1_steps.specs.Prelude.{All, Option, Some, None, IfSome, Result, Ok, Err, Refusal}
use Rattle.g1_steps.specs.Prelude.{StoreReply, RefineReply}
use Rattle.g1_steps.specs.declared.steps.mutator.FlushReply.{FlushReply}
use Rattle.g1_steps.specs.declared.crew.job.Job.{Job}
use Rattle.g1_steps.specs.declared.crew.desk.Step.{Step}
use Rattle.g1_steps.specs.declared.crew.desk.Step.TheVariants.{Store, Flush}
use Rattle.g1_steps.specs.declared.crew.desk.Script.{Script}
use Rattle.g1_steps.specs.declared.crew.desk.Script.TheVariants.{Mutate, Refine}

pub data Ask : Type 0 where
  AskStore : (slot : ℕ) (target : Option ℕ) → Ask
  AskFlush : Ask
  AskWork : Ask

abbrev pub ask_of : Step → Ask
ask_of (Store slot target) = AskStore slot target
ask_of Flush = AskFlush

abbrev pub asks_of : List Step → List Ask
asks_of steps = map ask_of steps

abbrev pub asks_in : Script → List Ask
asks_in (Mutate steps) = asks_of steps.items
asks_in (Refine rounds) = replicate rounds AskWork

abbrev pub is_store_ask : Ask → Bool
is_store_ask (AskStore slot target) = true
is_store_ask AskFlush = false
is_store_ask AskWork = false

-- A step that a desk takes, where the heap has `slots` slots and `may` is whether its caller may
-- store.
abbrev pub StepFits : ℕ → Bool → Step → Type 0
StepFits slots may (Store slot target) =
    (may ≡ true) × (slot < slots) × IfSome target (λ place. place < slots)
StepFits slots may Flush = may ≡ true

-- A script that a desk takes.
abbrev pub ScriptFits : ℕ → Bool → Script → Type 0
ScriptFits slots may (Mutate steps) = All (StepFits slots may) steps.items
ScriptFits slots may (Refine rounds) = Unit {0}

-- One call was made and answered, by what the desk tells of its replies.
abbrev pub IsAnswered : {X : Type 0} → (X → ℕ → Option ℕ → StoreReply → X → Type 0)
    → (X → FlushReply → X → Type 0) → (X → RefineReply → X → Type 0) → X → Ask → X → Type 0
IsAnswered stored flushed worked d (AskStore slot target) e =
    (reply : StoreReply) × stored d slot target reply e
IsAnswered stored flushed worked d AskFlush e = (reply : FlushReply) × flushed d reply e
IsAnswered stored flushed worked d AskWork e = (reply : RefineReply) × worked d reply e

-- Just these calls were answered, one after the other.
abbrev pub AreAnswered : {X : Type 0} → (X → Ask → X → Type 0) → X → List Ask → X → Type 0
AreAnswered answered d [] e = e ≡ d
AreAnswered {X} answered d (ask ∷ asks) e =
    (mid : X) × answered d ask mid × AreAnswered answered mid asks e

-- As many calls as are told were answered, and then the next was refused, which was the last.
pub record IsCutShort {X : Type 0} (answered : X → Ask → X → Type 0)
    (refuses : X → Ask → Refusal → X → Type 0) (asks : List Ask) (d : X) (made : ℕ)
    (why : Refusal) (e : X) : Type 0 where
  pub done : List Ask
  pub ask : Ask
  pub rest : List Ask
  pub mid : X
  pub asks_are : asks ≡ done ++ ask ∷ rest
  pub many : made ≡ length done
  pub answers : AreAnswered answered d done mid
  pub refusal : refuses mid ask why e

-- The calls of a script, of which none was made but those that are told.
abbrev pub HasEnded : {X : Type 0} → (X → Ask → X → Type 0) → (X → Ask → Refusal → X → Type 0)
    → List Ask → X → Result ℕ (ℕ × Refusal) → X → Type 0
HasEnded answered refuses asks d (Ok made) e = AreAnswered answered d asks e
HasEnded answered refuses asks d (Err refused) e =
    IsCutShort answered refuses asks d refused.0 refused.1 e

-- All calls were made; or just those before the one that was refused, of which there are as many as
-- are told.
abbrev pub HasAsked : {X : Type 0} → (X → List Ask → X → Type 0) → List Ask → X
    → Result ℕ (ℕ × Refusal) → X → Type 0
HasAsked did asks d (Ok made) e = (made ≡ length asks) × did d asks e
HasAsked did asks d (Err refused) e = (refused.0 < length asks) × did d (take refused.0 asks) e

-- The same of an outcome, which is there.
abbrev pub Ran : {X : Type 0} → (X → List Ask → X → Type 0) → List Ask → X
    → Option (Result ℕ (ℕ × Refusal)) → X → Type 0
Ran did asks d (Some outcome) e = HasAsked did asks d outcome e
Ran did asks d None e = ⊥

-- A job fits its desk, by how many slots the heap has and whether the caller may store.
abbrev pub JobFits : {X : Type 0} → (X → ℕ) → (X → Bool) → Job X → Type 0
JobFits slots may job = ScriptFits (slots job.desk) (may job.desk) job.script

-- A job came back with its script, its outcome, and the desk at which just these calls were made.
abbrev pub JobRan : {X : Type 0} → (X → List Ask → X → Type 0) → Job X → Job X → Type 0
JobRan did begun done =
    (done.script ≡ begun.script) × Ran did (asks_in begun.script) begun.desk done.outcome done.desk

-- A job made no calls but those of its script that its outcome tells.
abbrev pub JobEnded : {X : Type 0} → (X → Ask → X → Type 0) → (X → Ask → Refusal → X → Type 0)
    → Job X → Job X → Type 0
JobEnded answered refuses begun done =
    IfSome done.outcome (λ outcome.
    HasEnded answered refuses (asks_in begun.script) begun.desk outcome done.desk)
