-- What the parties of a race have stored once its jobs were run.
use Rattle.std.specs.Prelude.{◌≡◌, ◌<◌, ◌≤◌, ◌+◌, ◌∷◌}
use Rattle.g1_replay.specs.{◌∙◌, ℕ, get_or-map, suc, List, [], length, map, ap, sym, subst, refl, arith, true, false, append-nil, Option, Some, None, inl, inr, Result, Ok, Err, All, sum_by, filter_map, AllZip, option_or, true≢false, false≢true, le-ltb, lt-ltb, All-nil, All-cons, sum_by-cons, Line, View, StoreHistory, In, histories_of, Among, racer_view, Job, Script, Mutate, Refine, Refusal, Step, Ask, asks_in, asks_of, JobRan, Ran, Party, Racing, Sweeping, IsPartyOf, PartyDid, histories_after, party_rights, AllFrom, IsNewParty, with_flush, IsScriptAt, racer_in, first_refusal, refusal_in}
use native.Mathlib.Decide.{ℕ_discrete}
use Rattle.g1_race.specs.declared.race.Race.{Race}
use Rattle.g1_replay.proofs.JobLemmas.{none_first}
use Rattle.g1_replay.proofs.StoreLemmas.{flush_stores_none, one_history, steps_at, stored_at, stored_by}

-- what party k has stored once its script was run
abbrev pub HasRun : (mutators : ℕ) → (ℕ → List (ℕ × ℕ)) → ℕ → Party → Type 0
HasRun mutators own k (Racing r s) = (k < mutators) × ((number : ℕ) × ((racer_view r).histories ≡ (number, own k) ∷ []))
HasRun mutators own k (Sweeping w t) = mutators ≤ k

module _ {E : Type 0} (steps : E → List Step) (race : Race) (line : Line) (mutators rounds : ℕ) (scripts : List E) (len : length scripts ≡ mutators) where
  run_of : (k : ℕ) (m n : Party) (script : Script) → IsNewParty race line mutators k m × IsScriptAt (with_flush steps) rounds scripts k script → PartyDid m (asks_in script) n → HasRun mutators (stored_at steps scripts) k n
  run_of k (Racing r s) (Racing r' s') (Mutate made) j d =
      let number = j.0.fresh.0 in
      let own = j.1.0 in
      let here : steps_at steps scripts k ≡ steps own = get_or-map steps scripts k own [] j.1.1 ∙ ap steps (j.1.2 own) in (
        subst (λ n. k < n) len j.1.1,
        (
          number,
          d.stored ∙ ap (λ hs. histories_after (asks_of made.items) hs) j.0.fresh.1 ∙ one_history (asks_of made.items) number []
              ∙ ap (λ (l : List (ℕ × ℕ)). (number, l) ∷ [])
              (append-nil (stored_by (asks_of made.items)) ∙ ap (λ (ss : List Step). stored_by (asks_of ss)) j.1.3 ∙ flush_stores_none (steps own) ∙ ap (λ (ss : List Step). stored_by (asks_of ss)) (sym here)),
        ),
      )
  run_of k (Sweeping w t) (Sweeping w' t') (Refine made) j d = subst (λ n. n ≤ k) len j.1.0
  run_of k (Racing r s) (Racing r' s') (Refine made) j d = absurd (true≢false (j.0.kind ∙ le-ltb k mutators (subst (λ n. n ≤ k) len j.1.0)))
  run_of k (Sweeping w t) (Sweeping w' t') (Mutate made) j d = absurd (false≢true (j.0.kind ∙ lt-ltb k mutators (subst (λ n. k < n) len j.1.1)))
  run_of k (Racing r s) (Sweeping w' t') script j d = let bad : false ≡ true = d.kind in cc
  run_of k (Sweeping w t) (Racing r' s') script j d = let bad : true ≡ false = d.kind in cc

-- a job that was not refused, and those behind it
pub first_left : {D : Type 0} (outcome : D → Option (Result ℕ (ℕ × Refusal))) (ds rest : List D) (d : D) (total : Option Refusal) → ds ≡ d ∷ rest → None ≡ refusal_in (outcome d) → first_refusal (map outcome ds) ≡ total → first_refusal (map outcome rest) ≡ total
first_left {D = D} outcome ds rest d total e none was = ap (λ (o : Option Refusal). option_or o (first_refusal (map outcome rest))) none ∙ ap (λ (l : List D). first_refusal (map outcome l)) (sym e) ∙ was

module _ {D : Type 0} (party : D → Party) where
  abbrev pub Did : D → List Ask → D → Type 0
  Did d asks e = PartyDid (party d) asks (party e)

  -- a job that was not refused made all its calls
  did_all : (asks : List Ask) (d e : D) (o : Option (Result ℕ (ℕ × Refusal))) → refusal_in o ≡ None → Ran Did asks d o e → Did d asks e
  did_all asks d e (Some (Ok made)) n h = h.1
  did_all asks d e (Some (Err refused)) n h = cc
  did_all asks d e None n h = absurd h

  -- what the jobs of a race leave
  pub record AreRun (race : Race) (line : Line) (mutators : ℕ) (own : ℕ → List (ℕ × ℕ)) (k : ℕ) (js ds : List (Job D)) : Type 0 where
    pub run : AllFrom (HasRun mutators own) k (map (λ job. party job.desk) ds)
    pub of : All (IsPartyOf race line) (map (λ job. party job.desk) ds)
    pub rights : sum_by party_rights (map (λ job. party job.desk) ds) ≡ sum_by party_rights (map (λ job. party job.desk) js)
    pub len : length (map (λ job. party job.desk) ds) ≡ length (map (λ job. party job.desk) js)

  module _ {E : Type 0} (steps : E → List Step) (race : Race) (line : Line) (mutators rounds : ℕ) (scripts : List E) (many : length scripts ≡ mutators) where
    pub are_run : (k : ℕ) (js ds : List (Job D)) → AllFrom (λ i job. IsNewParty race line mutators i (party job.desk) × IsScriptAt (with_flush steps) rounds scripts i job.script) k js → AllZip (JobRan Did) js ds → first_refusal (map (λ job. job.outcome) ds) ≡ None → AreRun race line mutators (stored_at steps scripts) k js ds
    are_run k [] [] all r none = record { run = tt; of = All-nil (IsPartyOf race line); rights = refl; len = refl }
    are_run k (x ∷ xs) (y ∷ ys) all r none =
        let first = none_first (refusal_in y.outcome) (first_refusal (map (λ job. job.outcome) ys)) none in
        let did = did_all (asks_in x.script) x.desk y.desk y.outcome first.0 r.0.1 in
        let rest = are_run (suc k) xs ys all.1 r.1 first.1 in
        let ms = map (λ (job : Job D). party job.desk) xs in
        let ns = map (λ (job : Job D). party job.desk) ys in
        record {
          run = (run_of steps race line mutators rounds scripts many k (party x.desk) (party y.desk) x.script all.0 did, rest.run);
          of = All-cons (IsPartyOf race line) (party y.desk) ns (did.race ∙ all.0.0.of.0, did.home ∙ all.0.0.of.1, did.start ∙ all.0.0.of.2) rest.of;
          rights = omega (arith, did.rights, rest.rights, sum_by-cons party_rights (party x.desk) ms, sum_by-cons party_rights (party y.desk) ns);
          len = ap suc rest.len;
        }
    are_run k js ds all r none = absurd r

-- what the racers know
abbrev pub views_of : List Party → List View
views_of ms = map racer_view (filter_map racer_in ms)

module _ (mutators : ℕ) (own : ℕ → List (ℕ × ℕ)) where
  one_of : (hs : List StoreHistory) (number : ℕ) (own_stores : List (ℕ × ℕ)) (h : StoreHistory) → hs ≡ (number, own_stores) ∷ [] → In hs h → h.1 ≡ own_stores
  one_of hs number own_stores h e i = last (subst (λ (l : List StoreHistory). In l h) e i)
    where
      last : In ((number, own_stores) ∷ []) h → h.1 ≡ own_stores
      last (inl same) = sym (ap (λ (x : StoreHistory). x.1) same)
      last (inr nothing) = absurd nothing

  -- each history is that of some mutator
  pub each_own : (k : ℕ) (ms : List Party) → AllFrom (HasRun mutators own) k ms → (h : StoreHistory) → Among histories_of (views_of ms) h → (m : ℕ) × (m < mutators) × (h.1 ≡ own m)
  each_own k [] all h a = absurd a
  each_own k (Racing r s ∷ ms) all h (inl i) = (k, all.0.0, one_of (racer_view r).histories all.0.1.0 (own k) h all.0.1.1 i)
  each_own k (Racing r s ∷ ms) all h (inr a) = each_own (suc k) ms all.1 h a
  each_own k (Sweeping w t ∷ ms) all h a = each_own (suc k) ms all.1 h a

  -- each mutator's stores are some history
  pub every_own : (k : ℕ) (ms : List Party) → AllFrom (HasRun mutators own) k ms → (m : ℕ) → k ≤ m → m < mutators → m < k + length ms → (h : StoreHistory) × Among histories_of (views_of ms) h × (h.1 ≡ own m)
  every_own k [] all m le lt there = absurd (omega arith)
  every_own k (Sweeping w t ∷ ms) all m le lt there = absurd (let past : mutators ≤ k = all.0 in omega arith)
  every_own k (Racing r s ∷ ms) all m le lt there = pick (ℕ_discrete k m) (λ above. every_own (suc k) ms all.1 m above lt (omega arith))
    where
      pick : Dec (k ≡ m) → (suc k ≤ m → (h : StoreHistory) × Among histories_of (views_of ms) h × (h.1 ≡ own m)) → (h : StoreHistory) × Among histories_of (views_of (Racing r s ∷ ms)) h × (h.1 ≡ own m)
      pick (yes e) rest = ((all.0.1.0, own k), inl (subst (λ (l : List StoreHistory). In l (all.0.1.0, own k)) (sym all.0.1.1) (inl refl)), ap own e)
      pick (no ne) rest = let more = rest (omega arith) in (more.0, inr more.1, more.2)
