-- The scripts of a crew or a race: what each caller is to do.
use Rattle.std.specs.Prelude.{◌≡◌, ◌<◌, ◌≤◌, ◌==◌, ◌+◌, ◌∷◌, ◌++◌, if◌then◌else◌}
use Rattle.g1_replay.specs.Prelude.{◌∙◌, filter}
use Rattle.g1_replay.specs.Prelude.{ℕ, List, [], Bool, true, false, length, take, map, count_by}
use Rattle.g1_replay.specs.Prelude.{slice_index_or, Option, Some, None, Result, Err, refl, sym}
use Rattle.g1_replay.specs.Prelude.{subst, ap, append-nil, append_assoc, filter_map-append}
use Rattle.g1_replay.specs.Prelude.{add_assoc, add-zero, sum_by-append, sum_by, cond, filter_map}
use Rattle.g1_replay.specs.Prelude.{option_or, Ask, asks_in, asks_of, is_store_ask, Step, Script}
use Rattle.g1_replay.specs.Prelude.{Mutate, Refine, Refusal, Command, Store, Flush, Options, All}
use Rattle.g1_replay.specs.Prelude.{slot_count, StepFits, vec_len, most_for, Entry, CallMade}
use Rattle.g1_replay.specs.Prelude.{entries_made, ServesAll, was_made, is_store, NoMemory}
use Rattle.g1_replay.specs.Prelude.{entries_by}
use Rattle.g1_steps.specs.declared.crew.desk.Step.TheVariants as step
use Rattle.g1_replay.specs.declared.scripts.Scripts.{Scripts}
use Rattle.g1_replay.specs.Playing.{MayStop, Plays}

-- the call that a command asks of a mutator, and of which
abbrev pub asked_in : Command → Option (ℕ × Step)
asked_in (Store by slot target) = Some (by, step.Store slot target)
asked_in (Flush by) = Some (by, step.Flush)
asked_in c = None

-- the calls of what a command asks for: one, or none
abbrev pub asked_calls : Option (ℕ × Step) → List Step
asked_calls None = []
asked_calls (Some asked) = asked.1 ∷ []

-- the calls that a command asks of its mutator
abbrev pub calls_in : Command → List Step
calls_in command = asked_calls (asked_in command)

-- what a call that is asked of some mutator is to this one
abbrev pub own_step : ℕ → Option (ℕ × Step) → Option Step
own_step mutator None = None
own_step mutator (Some asked) = if asked.0 == mutator then Some asked.1 else None

-- what a command asks of this mutator, if it is the mutator's
abbrev pub step_for : ℕ → Command → Option Step
step_for mutator c = own_step mutator (asked_in c)

abbrev pub is_store_command : Command → Bool
is_store_command (Store mutator slot target) = true
is_store_command c = false

-- how many of the calls are stores
abbrev pub stores_in : List Step → ℕ
stores_in steps = count_by is_store_ask (asks_of steps)

-- The calls of these commands came behind those of their mutators, and no store was left out.
pub record AreKept {E : Type 0} (steps : E → List Step) (old : List E) (cs : List Command)
    (new : List E) : Type 0 where
  pub len : length new ≡ length old
  pub each : (k : ℕ) (d : E) → k < length old
      → steps (slice_index_or new k d)
      ≡ steps (slice_index_or old k d) ++ filter_map (step_for k) cs
  pub stored : sum_by (λ e. stores_in (steps e)) new
      ≡ sum_by (λ e. stores_in (steps e)) old + count_by is_store_command cs

-- These are the scripts of the commands: each has its mutator's calls, and no store is left out.
pub record AreScripts {E : Type 0} (steps : E → List Step) (scripts : List E)
    (cs : List Command) : Type 0 where
  pub each : (k : ℕ) → k < length scripts
      → slice_index_or (map steps scripts) k [] ≡ filter_map (step_for k) cs
  pub stored : sum_by (λ e. stores_in (steps e)) scripts ≡ count_by is_store_command cs

-- The script of the caller of this number: that of its mutator, or rounds of refinement.
abbrev pub IsScriptAt : {E : Type 0} → (E → List Step) → (rounds : ℕ) → List E → ℕ → Script → Type 0
IsScriptAt {E} steps rounds scripts number (Mutate made) =
    (script : E) × (number < length scripts) × ((d : E) → slice_index_or scripts number d ≡ script)
    × (made.items ≡ steps script)
IsScriptAt {E} steps rounds scripts number (Refine made) =
    (length scripts ≤ number) × (made ≡ rounds)

-- scripts that grow
pub kept_nothing : {E : Type 0} (steps : E → List Step) (old : List E) → AreKept steps old [] old
kept_nothing steps old = record {
  len = refl;
  each = λ k d h. sym (append-nil (steps (slice_index_or old k d)));
  stored = sym (add-zero (sum_by (λ e. stores_in (steps e)) old));
}

pub kept_then : {E : Type 0} (steps : E → List Step) (a b c : List E) (cs ds : List Command)
    (xs ys : List ℕ) → AreKept steps a cs b × (xs ≡ []) → AreKept steps b ds c × (ys ≡ [])
    → AreKept steps a (cs ++ ds) c × (xs ++ ys ≡ [])
kept_then {E} steps a b c cs ds xs ys p q = (
  record {
    len = q.0.len ∙ p.0.len;
    each = λ k d h.
        let behind : k < length b = subst (λ n. k < n) (sym p.0.len) h in
        q.0.each k d behind ∙ ap (λ (l : List Step). l ++ filter_map (step_for k) ds)
        (p.0.each k d h)
        ∙ append_assoc (steps (slice_index_or a k d)) (filter_map (step_for k) cs)
        (filter_map (step_for k) ds)
        ∙ ap (λ (l : List Step). steps (slice_index_or a k d) ++ l)
        (sym (filter_map-append (step_for k) cs ds));
    stored =
        let before : ℕ = sum_by (λ e. stores_in (steps e)) a in
        q.0.stored ∙ ap (λ n. n + count_by is_store_command ds) p.0.stored
        ∙ add_assoc before (count_by is_store_command cs) (count_by is_store_command ds)
        ∙ ap (λ n. before + n)
        (sym (sum_by-append (λ c. cond (is_store_command c) 1 0) cs ds));
  },
  ap (λ l. l ++ ys) p.1 ∙ q.1,
)

-- scripts, to which a command adds its call
abbrev pub keeping : Plays Scripts
keeping = record {
  takes = λ s l d. (vec_len s.steps ≡ d.mutators)
      × All (λ steps. All (StepFits (slot_count l) true) steps.items) s.steps.items;
  deeds = record {
    did = λ s cs es text t. AreKept (λ steps. steps.items) s.steps.items cs t.steps.items
        × (text ≡ []);
    full = λ s. ⊥;
    none = λ s. (kept_nothing (λ steps. steps.items) s.steps.items, refl);
    then = λ s t u cs ds es xs ys.
        kept_then (λ steps. steps.items) s.steps.items t.steps.items u.steps.items cs ds xs ys;
  };
  stops = λ stop. stop ≡ NoMemory;
  may_stop = λ stop e. subst MayStop (sym e) tt;
}

-- why a job was refused, if it was
abbrev pub refusal_in : Option (Result ℕ (ℕ × Refusal)) → Option Refusal
refusal_in (Some (Err refused)) = Some refused.1
refusal_in outcome = None

-- why the first of the jobs that were refused was
abbrev pub first_refusal : List (Option (Result ℕ (ℕ × Refusal))) → Option Refusal
first_refusal [] = None
first_refusal (outcome ∷ outcomes) = option_or (refusal_in outcome) (first_refusal outcomes)

-- The script of the caller of this number in a crew of these commands: those of its mutator, or
-- rounds of refinement.
abbrev pub IsScriptFor : Options → List Command → ℕ → Script → Type 0
IsScriptFor o cs number (Mutate made) =
    (number < o.mutators) × (made.items ≡ filter_map (step_for number) cs)
IsScriptFor o cs number (Refine made) = (o.mutators ≤ number) × (made ≡ o.rounds)

-- A job of a crew as it came back: what it was to do, its outcome, and the entries that its caller
-- made, in order.
pub record JobEnd : Type 0 where
  pub script : Script
  pub outcome : Option (Result ℕ (ℕ × Refusal))
  pub did : List Entry

-- what it asked for: all of its script, or what stands before the call that was refused
abbrev pub asked_by : Script → Option (Result ℕ (ℕ × Refusal)) → List Ask
asked_by script (Some (Err refused)) = take refused.0 (asks_in script)
asked_by script outcome = asks_in script

-- A refused call is one of the script.
abbrev pub IsRefusedWithin : Script → Option (Result ℕ (ℕ × Refusal)) → Type 0
IsRefusedWithin script (Some (Err refused)) = refused.0 < length (asks_in script)
IsRefusedWithin script outcome = Unit {0}

-- how many stores are among that
abbrev pub stores_asked : JobEnd → ℕ
stores_asked job = count_by is_store_ask (asked_by job.script job.outcome)

-- The entries of the caller of this number are those of calls that serve just what its job asked
-- for, in order: a store its own and at most one refinement, if it filled its log, a flush at most
-- one, a round at most `limit`. Refused calls may stand among them.
pub record HasEntered (number limit : ℕ) (job : JobEnd) : Type 0 where
  pub calls : List CallMade
  pub did : job.did ≡ entries_made number calls
  pub serves : ServesAll (asked_by job.script job.outcome) (filter was_made calls)
  pub most : length job.did ≤ sum_by (most_for limit) (asked_by job.script job.outcome)
  pub within : IsRefusedWithin job.script job.outcome

-- The jobs of a crew came back, one a caller, in order. Each had the script of its caller, and
-- `refused` is why the first of those that were refused was. What each caller made are just the
-- entries with its number, and all entries are of these callers.
pub record HasCome (IsAt : ℕ → Script → Type 0) (callers limit : ℕ) (refused : Option Refusal)
    (entries : List Entry) : Type 0 where
  pub jobs : List JobEnd
  pub many : length jobs ≡ callers
  pub scripts : (k : ℕ) (d : JobEnd) → k < length jobs → IsAt k (slice_index_or jobs k d).script
  pub entered : (k : ℕ) (d : JobEnd) → k < length jobs
      → HasEntered k limit (slice_index_or jobs k d)
  pub own : (k : ℕ) (d : JobEnd) → k < length jobs
      → (slice_index_or jobs k d).did ≡ entries_by k entries
  pub first : refused ≡ first_refusal (map (λ job. job.outcome) jobs)
  pub stored : count_by is_store entries ≡ sum_by stores_asked jobs
  pub all : length entries ≡ sum_by (λ job. length job.did) jobs
