-- Scripts of a crew or a race: they are kept as their trace is read, and fit its heap.
use Rattle.std.specs.Prelude.{◌≡◌, ◌≢◌, ◌==◌, ◌<◌, ◌+◌, ◌∷◌, ◌++◌, ◌-◌}
use Rattle.g1_replay.specs.{◌∙◌, map, zero-add, get_or-map, All-nil, All-cons, All-push, AreScripts, with_flush, ℕ, List, [], suc, add-one, add-zero, length, get_or, set, drop, drop-cons, refl, sym, subst, ap, append-nil, inl, inr, Option, Some, None, true, nat_lt, Bool, arith, rules, All, unwrap_or, filter_map, cons_option, cond, count_by, sum_by, sum_by-append, sum_by-cons, sum_by-set, All-head, All-tail, Ask, asks_of, is_store_ask, is_store_command, stores_in, cases_Bool, eq-eqb, eqb-true, ne_eqb, false≢true, get_or-set_same, get_or-set_other, length-set, length-drop, Shape, slot_count, StepFits, ScriptFits, Step, Script, Mutate, Refine, Command, Store, IsCommandOf, AllFrom, AreKept, IsScriptAt, asked_in, own_step, step_for}
use Rattle.std.proofs.lemmas.List.{map-append}
use Rattle.g1_steps.specs.Ask.{ask_of}
use Rattle.g1_steps.specs.declared.crew.desk.Step.TheVariants as step
use Rattle.g1_trace.specs.declared.command.Command.TheVariants.{Flush}

-- what a command asks of the mutator that it names, and of another
pub asked_own : (c : Command) (a : ℕ × Step) → asked_in c ≡ Some a → step_for a.0 c ≡ Some a.1
asked_own c a e = rw (e, eq-eqb a.0 a.0 refl) refl

pub asked_other : (c : Command) (a : ℕ × Step) (k : ℕ) → asked_in c ≡ Some a → k ≢ a.0 → step_for k c ≡ None
asked_other c a k e differ = rw (e, ne_eqb a.0 k (λ s. differ (sym s))) refl

pub asked_none : (c : Command) (k : ℕ) → asked_in c ≡ None → step_for k c ≡ None
asked_none c k e = ap (own_step k) e

-- the call of a command of the heap fits there
pub asked_fits : (l : Shape) (m : ℕ) (c : Command) (a : ℕ × Step) → IsCommandOf l m c → asked_in c ≡ Some a → (a.0 < m) × StepFits (slot_count l) true a.1
asked_fits l m (Store by slot target) a h e =
    subst (λ (p : ℕ × Step). (p.0 < m) × StepFits (slot_count l) true p.1) (ap (λ (o : Option (ℕ × Step)). unwrap_or o a) e) (h.0, (refl, h.1, h.2))
asked_fits l m (Flush by) a h e = subst (λ (p : ℕ × Step). (p.0 < m) × StepFits (slot_count l) true p.1) (ap (λ (o : Option (ℕ × Step)). unwrap_or o a) e) (h, refl)
asked_fits l m c a h e = cc

-- what one command asks of a mutator
pub asks_one : (k : ℕ) (c : Command) (o : Option Step) → step_for k c ≡ o → filter_map (step_for k) (c ∷ []) ≡ cons_option o []
asks_one k c o e = ap (λ (asked : Option Step). cons_option asked []) e

-- how many stores that is
pub stores_none : (c : Command) → asked_in c ≡ None → count_by is_store_command (c ∷ []) ≡ 0
stores_none (Store by slot target) e = cc
stores_none (Flush by) e = refl
stores_none c e = refl

pub stores_one : (c : Command) (a : ℕ × Step) → asked_in c ≡ Some a → count_by is_store_command (c ∷ []) ≡ stores_in (a.1 ∷ [])
stores_one (Store by slot target) a e = ap (λ (o : Option (ℕ × Step)). stores_in ((unwrap_or o a).1 ∷ [])) e
stores_one (Flush by) a e = ap (λ (o : Option (ℕ × Step)). stores_in ((unwrap_or o a).1 ∷ [])) e
stores_one c a e = cc

stores_both : (xs ys : List Step) → stores_in (xs ++ ys) ≡ stores_in xs + stores_in ys
stores_both xs ys = ap (λ (asks : List Ask). count_by is_store_ask asks) (map-append ask_of xs ys) ∙ sum_by-append (λ a. cond (is_store_ask a) 1 0) (asks_of xs) (asks_of ys)

-- an item within a list is the same whatever stands for one outside
same_item : {E : Type 0} (xs : List E) (i : ℕ) (d e : E) → i < length xs → get_or xs i d ≡ get_or xs i e
same_item xs i d e h = ap (λ l. get_or l 0 d) (sym (drop-cons xs i d h) ∙ drop-cons xs i e h)

module _ {E : Type 0} (steps : E → List Step) where
  -- one script has more, and no other
  pub kept_at : (old : List E) (m : ℕ) (v w : E) (cs : List Command) (more : List Step) → m < length old → w ≡ get_or old m w → steps v ≡ steps w ++ more
      → filter_map (step_for m) cs ≡ more → ((k : ℕ) → k ≢ m → filter_map (step_for k) cs ≡ []) → count_by is_store_command cs ≡ stores_in more → AreKept steps old cs (set old m v)
  kept_at old m v w cs more h was grown own other many = record {
    len = length-set old m v;
    each = λ k d below. elim (cases_Bool (k == m)) [
      | inl same ↦ subst (λ (j : ℕ). steps (get_or (set old m v) j d) ≡ steps (get_or old j d) ++ filter_map (step_for j) cs) (sym (eqb-true k m same))
          (ap steps (get_or-set_same old m v d h) ∙ grown ∙ ap (λ (x : E). steps x ++ more) (was ∙ same_item old m w d h) ∙ ap (λ (l : List Step). steps (get_or old m d) ++ l) (sym own))
      | inr differ ↦
          let ne : k ≢ m = λ e. false≢true (sym differ ∙ eq-eqb k m e) in
          ap steps (get_or-set_other old m k v d ne) ∙ sym (append-nil (steps (get_or old k d))) ∙ ap (λ (l : List Step). steps (get_or old k d) ++ l) (sym (other k ne))
    ];
    stored =
        let f : E → ℕ = λ e. stores_in (steps e) in
        let moved : sum_by f (set old m v) + f (get_or old m w) ≡ sum_by f old + f v = sum_by-set f old m v w h in
        let same : f w ≡ f (get_or old m w) = ap f was in
        let gained : f v ≡ f w + stores_in more = ap stores_in grown ∙ stores_both (steps w) more in
        omega (arith, moved, same, gained, many);
  }

  -- no script has more
  pub kept_none : (old : List E) (cs : List Command) → ((k : ℕ) → filter_map (step_for k) cs ≡ []) → count_by is_store_command cs ≡ 0 → AreKept steps old cs old
  kept_none old cs none many = record {
    len = refl;
    each = λ k d h. sym (append-nil (steps (get_or old k d))) ∙ ap (λ (l : List Step). steps (get_or old k d) ++ l) (sym (none k));
    stored = sym (add-zero (sum_by (λ e. stores_in (steps e)) old)) ∙ ap (λ n. sum_by (λ e. stores_in (steps e)) old + n) (sym many);
  }

  -- empty scripts have no store
  pub none_stores : (xs : List E) → All (λ e. steps e ≡ []) xs → sum_by (λ e. stores_in (steps e)) xs ≡ 0
  none_stores [] all = refl
  none_stores (x ∷ xs) all =
      let f : E → ℕ = λ e. stores_in (steps e) in
      let here : f x ≡ 0 = ap stores_in (All-head (λ e. steps e ≡ []) x xs all) in
      let rest : sum_by f xs ≡ 0 = none_stores xs (All-tail (λ e. steps e ≡ []) x xs all) in
      omega (arith, here, rest, sum_by-cons f x xs)

  -- scripts that were empty are those of the commands that they have kept
  pub kept_whole : (old new : List E) (cs : List Command) → All (λ e. steps e ≡ []) old → AreKept steps old cs new → AreScripts steps new cs
  kept_whole old new cs empty kept = record {
    each = each new kept;
    stored = kept.stored ∙ ap (λ n. n + count_by is_store_command cs) (none_stores old empty) ∙ zero-add (count_by is_store_command cs);
  }
    where
      each : (xs : List E) → AreKept steps old cs xs → (k : ℕ) → k < length xs → get_or (map steps xs) k [] ≡ filter_map (step_for k) cs
      each [] kept k lt = absurd (omega (arith, lt))
      each (x ∷ xs) kept k lt =
          let below : k < length old = subst (λ n. k < n) kept.len lt in
          get_or-map steps (x ∷ xs) k x [] lt ∙ kept.each k x below ∙ ap (λ (l : List Step). l ++ filter_map (step_for k) cs) (empty k x below)

  -- what holds of each script
  pub each_script : (P : List Step → Type 0) (xs : List E) → All (λ v. P (steps v)) xs → All P (map steps xs)
  each_script P [] all = All-nil P
  each_script P (x ∷ xs) all = All-cons P (steps x) (map steps xs) (All-head (λ v. P (steps v)) x xs all) (each_script P xs (All-tail (λ v. P (steps v)) x xs all))

  -- a flush fits
  pub flushes_fit : (slots : ℕ) (scripts : List E) → All (λ v. All (StepFits slots true) (steps v)) scripts → All (λ v. All (StepFits slots true) (with_flush steps v)) scripts
  flushes_fit slots scripts all k d lt = All-push (StepFits slots true) (steps (get_or scripts k d)) step.Flush (all k d lt) refl

  -- a script that was taken fits
  pub script_at_fits : (slots rounds most number : ℕ) (scripts : List E) (made : Script) → length scripts ≡ most → All (λ v. All (StepFits slots true) (steps v)) scripts
      → IsScriptAt steps rounds scripts number made → ScriptFits slots (nat_lt number most) made
  script_at_fits slots rounds most number scripts (Mutate made) len all h =
      let below : number < most = subst (λ n. number < n) len h.1 in
      let yes : nat_lt number most ≡ true = search rules in
      let P : Bool → Type 0 = λ b. All (StepFits slots b) made.items in
      let fits : All (StepFits slots true) (steps h.0) = subst (λ (v : E). All (StepFits slots true) (steps v)) (h.2 h.0) (all number h.0 h.1) in
      subst P (sym yes) (subst (λ (ss : List Step). All (StepFits slots true) ss) (sym h.3) fits)
  script_at_fits slots rounds most number scripts (Refine made) len all h = tt

-- what is left of a list from a place on
module _ {E : Type 0} where
  pub some_left : (k : ℕ) (all now rest : List E) (item : E) → now ≡ drop k all → 0 < length now → item ≡ get_or now 0 item → rest ≡ drop 1 now
      → (k < length all) × ((d : E) → get_or all k d ≡ item) × (rest ≡ drop (k + 1) all)
  some_left k all now rest item e some first behind =
      let long : length now ≡ length all - k = ap length e ∙ length-drop k all in
      let below : k < length all = omega arith in
      let next : drop 1 now ≡ drop (suc k) all = ap (drop 1) (e ∙ drop-cons all k item below) in (
        below,
        λ d. sym (first ∙ ap (λ (l : List E). get_or l 0 item) (e ∙ drop-cons all k d below)),
        behind ∙ next ∙ ap (λ n. drop n all) (sym (add-one k)),
      )

  -- each item fits its place
  pub each_from : (P : ℕ → E → Type 0) (j : ℕ) (xs : List E) → ((k : ℕ) (d : E) → k < length xs → P (j + k) (get_or xs k d)) → AllFrom P j xs
  each_from P j [] h = tt
  each_from P j (x ∷ xs) h = (
    subst (λ n. P n x) (add-zero j) (h 0 x (omega arith)),
    each_from P (suc j) xs (λ k d below. let later : j + suc k ≡ suc j + k = omega arith in subst (λ n. P n (get_or xs k d)) later (h (suc k) d (omega arith))),
  )
