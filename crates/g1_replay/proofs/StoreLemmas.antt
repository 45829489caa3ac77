-- What a script's stores come to: a racer's history, and its stores as the commands of the trace.
use Rattle.std.specs.Prelude.{◌≡◌, ◌<◌, ◌^◌, ◌∷◌, ◌++◌, ◌==◌, ◌&&◌, if◌then◌else◌}
use Rattle.g1_replay.specs.{◌∙◌, ℕ, List, [], length, map, get_or, arith, All, All-head, All-tail, StepFits, Step, AreScripts, Bool, true, false, cond, eqb, ap, sym, refl, inl, inr, append_assoc, append-nil, Option, Some, None, ⊎_elim, option_or, cons_option, filter_map, In, last_to, word_of, in_either, Ask, AskStore, AskFlush, AskWork, asks_of, Command, Store, histories_after, last_by, step_for}
use Rattle.g1_race.proofs.StoreCalls.{word_fits}
use Rattle.g1_steps.specs.declared.crew.desk.Step.TheVariants as step
use Rattle.g1_trace.specs.declared.command.Command.TheVariants.{Flush}

-- the stores among the calls, as slots and words, the newest first
abbrev pub stored_by : List Ask → List (ℕ × ℕ)
stored_by [] = []
stored_by (AskStore slot target ∷ asks) = stored_by asks ++ (slot, word_of target) ∷ []
stored_by (AskFlush ∷ asks) = stored_by asks
stored_by (AskWork ∷ asks) = stored_by asks

-- the same of a mutator's commands
abbrev pub own : ℕ → List Command → List (ℕ × ℕ)
own mutator [] = []
own mutator (Store by slot target ∷ cs) = own mutator cs ++ (if by == mutator then (slot, word_of target) ∷ [] else [])
own mutator (c ∷ cs) = own mutator cs

pub one_history : (asks : List Ask) (number : ℕ) (h : List (ℕ × ℕ)) → histories_after asks ((number, h) ∷ []) ≡ (number, stored_by asks ++ h) ∷ []
one_history [] number h = refl
one_history (AskStore slot target ∷ asks) number h = one_history asks number ((slot, word_of target) ∷ h) ∙ ap (λ (l : List (ℕ × ℕ)). (number, l) ∷ []) (sym (append_assoc (stored_by asks) ((slot, word_of target) ∷ []) h))
one_history (AskFlush ∷ asks) number h = one_history asks number h
one_history (AskWork ∷ asks) number h = one_history asks number h

-- the calls that they are
abbrev pub script_asks : ℕ → List Command → List Ask
script_asks mutator cs = asks_of (filter_map (step_for mutator) cs)

pub asks_own : (mutator : ℕ) (cs : List Command) → stored_by (script_asks mutator cs) ≡ own mutator cs
asks_own mutator [] = refl
asks_own mutator (Store by slot target ∷ cs) = mine (by == mutator) (asks_own mutator cs)
  where
    mine : (b : Bool) → stored_by (script_asks mutator cs) ≡ own mutator cs
        → stored_by (asks_of (cons_option (if b then Some (step.Store slot target) else None) (filter_map (step_for mutator) cs))) ≡ own mutator cs ++ (if b then (slot, word_of target) ∷ [] else [])
    mine true e = ap (λ (l : List (ℕ × ℕ)). l ++ (slot, word_of target) ∷ []) e
    mine false e = e ∙ sym (append-nil (own mutator cs))
asks_own mutator (Flush by ∷ cs) = mine (by == mutator) (asks_own mutator cs)
  where
    mine : (b : Bool) → stored_by (script_asks mutator cs) ≡ own mutator cs → stored_by (asks_of (cons_option (if b then Some step.Flush else None) (filter_map (step_for mutator) cs))) ≡ own mutator cs
    mine true e = e
    mine false e = e
asks_own mutator (c ∷ cs) = asks_own mutator cs

-- what the scripts of the mutators store
module _ {E : Type 0} (steps : E → List Step) (scripts : List E) where
  abbrev pub steps_at : ℕ → List Step
  steps_at k = get_or (map steps scripts) k []

  abbrev pub stored_at : ℕ → List (ℕ × ℕ)
  stored_at k = stored_by (asks_of (steps_at k))

  -- it is what their commands do
  pub stored_own : (cs : List Command) → AreScripts steps scripts cs → (k : ℕ) → k < length scripts → stored_at k ≡ own k cs
  stored_own cs of k lt = ap (λ (ss : List Step). stored_by (asks_of ss)) (of.each k lt) ∙ asks_own k cs

-- a flush stores nothing
pub flush_stores_none : (steps : List Step) → stored_by (asks_of (steps ++ step.Flush ∷ [])) ≡ stored_by (asks_of steps)
flush_stores_none [] = refl
flush_stores_none (step.Store slot target ∷ steps) = ap (λ (l : List (ℕ × ℕ)). l ++ (slot, word_of target) ∷ []) (flush_stores_none steps)
flush_stores_none (step.Flush ∷ steps) = flush_stores_none steps

-- what fits a heap is stored as a word of 32 bits
pub stores_low : (slots : ℕ) (steps : List Step) → slots < 2 ^ 32 → All (StepFits slots true) steps → (slot word : ℕ) → In (stored_by (asks_of steps)) (slot, word) → word < 2 ^ 32
stores_low slots [] low all slot word i = absurd i
stores_low slots (step.Store to target ∷ steps) low all slot word i = ⊎_elim
    (λ (a : In {A = ℕ × ℕ} (stored_by (asks_of steps)) (slot, word)). stores_low slots steps low (All-tail (StepFits slots true) (step.Store to target) steps all) slot word a)
    (λ (b : In {A = ℕ × ℕ} ((to, word_of target) ∷ []) (slot, word)). here b)
    (in_either (stored_by (asks_of steps)) ((to, word_of target) ∷ []) (slot, word) i)
  where
    here : In {A = ℕ × ℕ} ((to, word_of target) ∷ []) (slot, word) → word < 2 ^ 32
    here (inl e) =
        let same : word_of target ≡ word = ap (λ (x : ℕ × ℕ). x.1) e in
        let fits = word_fits target slots (All-head (StepFits slots true) (step.Store to target) steps all).2 in
        omega (arith, same, fits, low)
    here (inr x) = absurd x
stores_low slots (step.Flush ∷ steps) low all slot word i = stores_low slots steps low (All-tail (StepFits slots true) step.Flush steps all) slot word i

-- the word of what is stored last
abbrev pub as_word : Option (Option ℕ) → Option ℕ
as_word None = None
as_word (Some target) = Some (word_of target)

last_both : (slot : ℕ) (xs ys : List (ℕ × ℕ)) → last_to slot (xs ++ ys) ≡ option_or (last_to slot xs) (last_to slot ys)
last_both slot [] ys = refl
last_both slot (x ∷ xs) ys = here (eqb x.0 slot) (last_both slot xs ys)
  where
    here : (b : Bool) → last_to slot (xs ++ ys) ≡ option_or (last_to slot xs) (last_to slot ys) → cond b (Some x.1) (last_to slot (xs ++ ys)) ≡ option_or (cond b (Some x.1) (last_to slot xs)) (last_to slot ys)
    here true e = refl
    here false e = e

or_words : (a b : Option (Option ℕ)) → option_or (as_word a) (as_word b) ≡ as_word (option_or a b)
or_words None b = refl
or_words (Some t) b = refl

pub last_own : (mutator slot : ℕ) (cs : List Command) → last_to slot (own mutator cs) ≡ as_word (last_by mutator slot cs)
last_own mutator slot [] = refl
last_own mutator slot (Store by to target ∷ cs) =
    last_both slot (own mutator cs) (if by == mutator then (to, word_of target) ∷ [] else []) ∙ ap (λ (o : Option ℕ). option_or o (last_to slot (if by == mutator then (to, word_of target) ∷ [] else []))) (last_own mutator slot cs)
    ∙ ap (λ (o : Option ℕ). option_or (as_word (last_by mutator slot cs)) o) (one (by == mutator)) ∙ or_words (last_by mutator slot cs) (if (by == mutator) && (to == slot) then Some target else None)
  where
    two : (b : Bool) → (if b then Some (word_of target) else None) ≡ as_word (if b then Some target else None)
    two true = refl
    two false = refl

    one : (a : Bool) → last_to slot (if a then (to, word_of target) ∷ [] else []) ≡ as_word (if a && (to == slot) then Some target else None)
    one true = two (to == slot)
    one false = refl
last_own mutator slot (c ∷ cs) = last_own mutator slot cs

-- a store of the history is a command
pub in_own : (mutator slot word : ℕ) (cs : List Command) → In (own mutator cs) (slot, word) → (by : ℕ) × (target : Option ℕ) × In cs (Store by slot target) × (word ≡ word_of target)
in_own mutator slot word [] i = absurd i
in_own mutator slot word (Store by to target ∷ cs) i = ⊎_elim
    (λ (a : In {A = ℕ × ℕ} (own mutator cs) (slot, word)). let rest = in_own mutator slot word cs a in (rest.0, rest.1, inr rest.2, rest.3))
    (λ (b : In {A = ℕ × ℕ} (if by == mutator then (to, word_of target) ∷ [] else []) (slot, word)). here (by == mutator) b)
    (in_either (own mutator cs) (if by == mutator then (to, word_of target) ∷ [] else []) (slot, word) i)
  where
    here : (b : Bool) → In {A = ℕ × ℕ} (if b then (to, word_of target) ∷ [] else []) (slot, word) → (from : ℕ) × (stored : Option ℕ) × In (Store by to target ∷ cs) (Store from slot stored) × (word ≡ word_of stored)
    here true (inl e) = (by, target, inl (ap (λ (x : ℕ × ℕ). Store by x.0 target) e), sym (ap (λ (x : ℕ × ℕ). x.1) e))
    here true (inr x) = absurd x
    here false x = absurd x
in_own mutator slot word (c ∷ cs) i = let rest = in_own mutator slot word cs i in (rest.0, rest.1, inr rest.2, rest.3)
