-- What the jobs of a crew came to, by their outcomes and by the callers that are left.
use Rattle.std.specs.Prelude.{◌≡◌, ◌+◌, ◌<◌, ◌≤◌, ◌∷◌, ◌++◌}
use Rattle.g1_replay.specs.{◌∙◌, entries_by, replicate, ℕ, zero, suc, List, [], length, map, drop, drop-cons, length-drop, add-zero, zero-add, option_or, Mutate, Refine, asks_of, refusal_in, stores_in, cond, get_or, refl, sym, subst, ap, arith, Option, Some, None, Result, Ok, Err, count_by, sum_by, All, AllZip, get_or-map, length-map, length_all_zip, sum_by-cons, Refusal, Ask, asks_in, is_store_ask, JobRan, Ran, Script, Step, Job, CallerCounts, CallerState, IsScriptAt, IsScriptFor, AreScripts, Options, Command, first_refusal, JobEnd, asked_by, stored_by, made_by, stores_asked, IsRefusedWithin, Entry, AreMadeBy, Shape, entries_made, is_store, HasEntered, HasCome, most_for}
use Rattle.std.proofs.lemmas.List.{nil_from_length}
use Rattle.g1_shared.specs.Callers.{CallerMark, HasOwn}
use Rattle.g1_shared.specs.Did.{DeskDid, CallerDid}
use Rattle.std.proofs.lemmas.List.Elements.{AllZip-get_or}
use Rattle.std.proofs.lemmas.Simd.{map-map}
use Rattle.g1_log.proofs.Settles.{sum_by-map}
use Rattle.g1_steps.specs.Ask.{AskWork}

-- calls at a desk of a shared book
abbrev DidAt : {X : Type 0} → Shape → (X → ℕ) → (X → CallerState) → X → List Ask → X → Type 0
DidAt layout limit stood s asks t = DeskDid layout (limit s) (stood s) asks (limit t) (stood t)

-- a job as it came back, with the entries that its caller made
abbrev end_of : {X : Type 0} → (X → CallerState) → Job X → JobEnd
end_of stood job = record { script = job.script; outcome = job.outcome; did = (stood job.desk).counts.did }

did_by : {X : Type 0} (layout : Shape) (limit : X → ℕ) (stood : X → CallerState) (script : Script) (outcome : Option (Result ℕ (ℕ × Refusal))) (d e : X) → Ran (DidAt layout limit stood) (asks_in script) d outcome e
    → CallerDid layout (limit d) (stood d) (asked_by script outcome) (stood e)
did_by layout limit stood script (Some (Ok made)) d e h = h.1.1
did_by layout limit stood script (Some (Err refused)) d e h = h.1.1
did_by layout limit stood script None d e h = absurd h

within_by : {X : Type 0} (did : X → List Ask → X → Type 0) (script : Script) (outcome : Option (Result ℕ (ℕ × Refusal))) (d e : X) → Ran did (asks_in script) d outcome e → IsRefusedWithin script outcome
within_by did script (Some (Ok made)) d e h = tt
within_by did script (Some (Err refused)) d e h = h.0
within_by did script None d e h = tt

-- each caller has as many stores more as its job asked for
all_store : {X : Type 0} (layout : Shape) (limit : X → ℕ) (stood : X → CallerState) (begun done : List (Job X)) → AllZip (JobRan (DidAt layout limit stood)) begun done
    → sum_by (λ (c : CallerState). stored_by c.counts) (map (λ (j : Job X). stood j.desk) done) ≡ sum_by (λ (c : CallerState). stored_by c.counts) (map (λ (j : Job X). stood j.desk) begun) + sum_by stores_asked (map (end_of stood) done)
all_store layout limit stood [] [] h = refl
all_store {X} layout limit stood (a ∷ begun) (b ∷ done) h =
    let stored : CallerState → ℕ = λ c. stored_by c.counts in
    let stand : Job X → CallerState = λ j. stood j.desk in
    let made : stored (stand b) ≡ stored (stand a) + count_by is_store_ask (asked_by a.script b.outcome) = (did_by layout limit stood a.script b.outcome a.desk b.desk h.0.1).stored in
    let same : stores_asked (end_of stood b) ≡ count_by is_store_ask (asked_by a.script b.outcome) = ap (λ s. count_by is_store_ask (asked_by s b.outcome)) h.0.0 in
    let rest : sum_by stored (map stand done) ≡ sum_by stored (map stand begun) + sum_by stores_asked (map (end_of stood) done) = all_store layout limit stood begun done h.1 in
    omega (arith, made, same, rest, sum_by-cons stored (stand b) (map stand done), sum_by-cons stored (stand a) (map stand begun), sum_by-cons stores_asked (end_of stood b) (map (end_of stood) done))
all_store layout limit stood begun done h = absurd h

none_stored : (callers : List CallerState) → ((k : ℕ) (d : CallerState) → k < length callers → stored_by (get_or callers k d).counts ≡ 0) → sum_by (λ (c : CallerState). stored_by c.counts) callers ≡ 0
none_stored [] none = refl
none_stored (c ∷ callers) none =
    let first : stored_by c.counts ≡ 0 = none 0 c (omega arith) in
    let rest : sum_by (λ (c : CallerState). stored_by c.counts) callers ≡ 0 = none_stored callers (λ k d lt. none (suc k) d (omega (arith, lt))) in
    omega (arith, first, rest, sum_by-cons (λ (c : CallerState). stored_by c.counts) c callers)

-- an item of a list that has this place
item_at : {A : Type 0} (xs : List A) (k : ℕ) → k < length xs → A
item_at [] k lt = absurd (omega (arith, lt))
item_at (x ∷ xs) k lt = x

-- what holds of each job that came back, by what held when it began
each_end : {X : Type 0} (stood : X → CallerState) (R : Job X → Job X → Type 0) (P : ℕ → JobEnd → Type 0) (begun done : List (Job X)) → AllZip R begun done
    → ((k : ℕ) (x : Job X) → k < length begun → R (get_or begun k x) (get_or done k x) → P k (end_of stood (get_or done k x))) → (k : ℕ) (d : JobEnd) → k < length (map (end_of stood) done) → P k (get_or (map (end_of stood) done) k d)
each_end stood R P begun done h one k d lt =
    let there : k < length done = omega (arith, lt, length-map done (end_of stood)) in
    let x = item_at done k there in
    let began : k < length begun = omega (arith, there, length_all_zip R begun done h) in
    subst (P k) (sym (get_or-map (end_of stood) done k x d there)) (one k x began (AllZip-get_or R begun done k x x h began))

ran_by : {X : Type 0} (layout : Shape) (limit : X → ℕ) (stood : X → CallerState) (b e : Job X) → JobRan (DidAt layout limit stood) b e → CallerDid layout (limit b.desk) (stood b.desk) (asked_by e.script e.outcome) (stood e.desk)
ran_by layout limit stood b e ran =
    subst (λ (s : Script). CallerDid layout (limit b.desk) (stood b.desk) (asked_by s e.outcome) (stood e.desk)) (sym ran.0) (did_by layout limit stood b.script e.outcome b.desk e.desk ran.1)

-- a caller that had made no call made what serves its job
one_entered : {X : Type 0} (layout : Shape) (limit : X → ℕ) (stood : X → CallerState) (k most : ℕ) (b e : Job X) → (limit b.desk ≡ most) × ((stood b.desk).counts ≡ record { number = k; did = [] }) → JobRan (DidAt layout limit stood) b e → HasEntered k most (end_of stood e)
one_entered layout limit stood k most b e begun ran =
    let did = ran_by layout limit stood b e ran in
    let none : made_by (stood b.desk).counts ≡ 0 = ap made_by begun.1 in
    let high : made_by (stood e.desk).counts ≤ made_by (stood b.desk).counts + sum_by (most_for most) (asked_by e.script e.outcome) =
    subst (λ (n : ℕ). made_by (stood e.desk).counts ≤ made_by (stood b.desk).counts + sum_by (most_for n) (asked_by e.script e.outcome)) begun.0 did.most in
    record {
      calls = did.served.calls;
      did = ap (λ (t : CallerCounts). t.did) did.served.made.0 ∙ ap (λ (t : CallerCounts). t.did ++ entries_made t.number did.served.calls) begun.1;
      serves = did.served.serves;
      most = omega (arith, high, none);
      within = subst (λ (s : Script). IsRefusedWithin s e.outcome) (sym ran.0) (within_by (DidAt layout limit stood) b.script e.outcome b.desk e.desk ran.1);
    }

-- and its record is that of its number
one_own : {X : Type 0} (layout : Shape) (limit : X → ℕ) (stood : X → CallerState) (entries : List Entry) (k : ℕ) (b e : Job X) → (stood b.desk).counts ≡ record { number = k; did = [] } → JobRan (DidAt layout limit stood) b e × HasOwn entries (stood e.desk) → (end_of stood e).did ≡ entries_by k entries
one_own layout limit stood entries k b e begun ran =
    let did = ran_by layout limit stood b e ran.0 in
    ran.1 ∙ ap (λ n. entries_by n entries) (ap (λ (m : CallerMark). m.number) did.mark ∙ ap (λ (t : CallerCounts). t.number) begun)

-- The jobs of callers that have made no call came back.
pub has_come : {X : Type 0} (layout : Shape) (limit : X → ℕ) (stood : X → CallerState) (At : ℕ → Script → Type 0) (count most : ℕ) (refused : Option Refusal) (entries : List Entry) (callers after : List CallerState) (begun done : List (Job X))
    → AllZip (JobRan (DidAt layout limit stood)) begun done → All (λ (j : Job X). At (stood j.desk).counts.number j.script) begun → All (λ (j : Job X). limit j.desk ≡ most) begun
    → map (λ (j : Job X). stood j.desk) begun ≡ callers → length callers ≡ count
    → ((k : ℕ) (d : CallerState) → k < length callers → (get_or callers k d).counts ≡ record { number = k; did = [] })
    → refused ≡ first_refusal (map (λ (j : Job X). j.outcome) done) → after ≡ map (λ (j : Job X). stood j.desk) done
    → AreMadeBy after entries → HasCome At count most refused entries
has_come {X} layout limit stood At count most refused entries callers after begun done ran scripts room at many new first left made =
    let stand : Job X → CallerState = λ j. stood j.desk in
    let R : Job X → Job X → Type 0 = JobRan (DidAt layout limit stood) in
    let n = length-map begun stand in
    let zip = length_all_zip R begun done ran in
    let called = ap (λ (l : List CallerState). length l) at in
    let none = none_stored callers (λ k d lt. ap stored_by (new k d lt)) in
    let counts : (k : ℕ) (d : Job X) → k < length begun → (stand (get_or begun k d)).counts ≡ record { number = k; did = [] } =
    λ k d lt. ap (λ (c : CallerState). c.counts) (sym (get_or-map stand begun k d (stand d) lt) ∙ ap (λ (l : List CallerState). get_or l k (stand d)) at) ∙ new k (stand d) (omega (arith, lt, n, called)) in
    let has : All (HasOwn entries) (map stand done) = subst (All (HasOwn entries)) left made.each in
    record {
      jobs = map (end_of stood) done;
      many = omega (arith, length-map done (end_of stood), zip, n, called, many);
      scripts = each_end stood R (λ k e. At k e.script) begun done ran (λ k x lt go. subst (At k) (sym go.0) (subst (λ i. At i (get_or begun k x).script) (ap (λ (t : CallerCounts). t.number) (counts k x lt)) (scripts k x lt)));
      entered = each_end stood R (λ k e. HasEntered k most e) begun done ran (λ k x lt go. one_entered layout limit stood k most (get_or begun k x) (get_or done k x) (room k x lt, counts k x lt) go);
      own = each_end stood R (λ k e. e.did ≡ entries_by k entries) begun done ran
          (λ k x lt go. let there : k < length done = omega (arith, lt, zip) in
          one_own layout limit stood entries k (get_or begun k x) (get_or done k x) (counts k x lt) (go, subst (HasOwn entries) (get_or-map stand done k x (stand x) there) (has k (stand x) (omega (arith, there, length-map done stand)))));
      first = first ∙ ap first_refusal (sym (map-map (λ (e : JobEnd). e.outcome) (end_of stood) done));
      stored = omega (arith, made.stores, ap (sum_by (λ (c : CallerState). stored_by c.counts)) left, all_store layout limit stood begun done ran, ap (sum_by (λ (c : CallerState). stored_by c.counts)) at, none);
      all = made.all ∙ ap (sum_by (λ (c : CallerState). made_by c.counts)) left ∙ sum_by-map (λ (c : CallerState). made_by c.counts) stand done ∙ sym (sum_by-map (λ (e : JobEnd). length e.did) (end_of stood) done);
    }

pub none_first : (a b : Option Refusal) → option_or a b ≡ None → (a ≡ None) × (b ≡ None)
none_first None b e = (refl, e)
none_first (Some x) b e = cc

-- a job that was not refused asked for all of its script
asked_all : (script : Script) (outcome : Option (Result ℕ (ℕ × Refusal))) → refusal_in outcome ≡ None → asked_by script outcome ≡ asks_in script
asked_all script (Some (Err refused)) none = cc
asked_all script (Some (Ok made)) none = refl
asked_all script None none = refl

-- rounds have no store
rounds_store : (rounds : ℕ) → count_by is_store_ask (replicate rounds AskWork) ≡ 0
rounds_store zero = refl
rounds_store (suc rounds) =
    sum_by-cons (λ (a : Ask). cond (is_store_ask a) 1 0) AskWork (replicate rounds AskWork) ∙ zero-add (count_by is_store_ask (replicate rounds AskWork)) ∙ rounds_store rounds

module _ {E : Type 0} (steps : E → List Step) (rounds : ℕ) (asked : List E) where
  abbrev stores : E → ℕ
  stores e = stores_in (steps e)

  none_behind : (j : ℕ) → length asked ≤ j → sum_by stores (drop j asked) ≡ 0
  none_behind j le = ap (sum_by stores) (nil_from_length (drop j asked) (length-drop j asked ∙ omega arith))

  -- the stores of one script, and those behind it
  one_stored : (j : ℕ) (script : Script) → IsScriptAt steps rounds asked j script → count_by is_store_ask (asks_in script) + sum_by stores (drop (suc j) asked) ≡ sum_by stores (drop j asked)
  one_stored j (Mutate made) h =
      let here : stores (get_or asked j h.0) ≡ stores h.0 = ap stores (h.2 h.0) in
      let own : count_by is_store_ask (asks_of made.items) ≡ stores h.0 = ap stores_in h.3 in
      let first : sum_by stores (drop j asked) ≡ stores (get_or asked j h.0) + sum_by stores (drop (suc j) asked) =
      ap (sum_by stores) (drop-cons asked j h.0 h.1) ∙ sum_by-cons stores (get_or asked j h.0) (drop (suc j) asked) in
      omega (arith, here, own, first)
  one_stored j (Refine made) h =
      let now : sum_by stores (drop j asked) ≡ 0 = none_behind j h.0 in
      let next : sum_by stores (drop (suc j) asked) ≡ 0 = none_behind (suc j) (omega (arith, h.0)) in
      omega (arith, now, next, rounds_store made)

  -- what the jobs from a place on have stored, if none was refused
  jobs_stored : (j : ℕ) (jobs : List JobEnd) → first_refusal (map (λ job. job.outcome) jobs) ≡ None
      → ((k : ℕ) (d : JobEnd) → k < length jobs → IsScriptAt steps rounds asked (j + k) (get_or jobs k d).script) → length asked ≤ j + length jobs → sum_by stores_asked jobs ≡ sum_by stores (drop j asked)
  jobs_stored j [] none each le = sym (none_behind j (omega (arith, le)))
  jobs_stored j (x ∷ xs) none each le =
      let first = none_first (refusal_in x.outcome) (first_refusal (map (λ job. job.outcome) xs)) none in
      let script : IsScriptAt steps rounds asked j x.script = subst (λ n. IsScriptAt steps rounds asked n x.script) (add-zero j) (each 0 x (omega arith)) in
      let here : stores_asked x ≡ count_by is_store_ask (asks_in x.script) = ap (λ (asks : List Ask). count_by is_store_ask asks) (asked_all x.script x.outcome first.0) in
      let one = one_stored j x.script script in
      let rest : sum_by stores_asked xs ≡ sum_by stores (drop (suc j) asked) =
      jobs_stored (suc j) xs first.1 (λ k d lt. let next : j + suc k ≡ suc j + k = omega arith in subst (λ n. IsScriptAt steps rounds asked n (get_or xs k d).script) next (each (suc k) d (omega (arith, lt)))) (omega (arith, le)) in
      omega (arith, here, one, rest, sum_by-cons stores_asked x xs)

  -- if no job was refused, as many stores were entered as the scripts have
  pub all_stored : (count most : ℕ) (refused : Option Refusal) (entries : List Entry) → HasCome (IsScriptAt steps rounds asked) count most refused entries → refused ≡ None → length asked ≤ count → count_by is_store entries ≡ sum_by stores asked
  all_stored count most refused entries come none le =
      come.stored ∙ jobs_stored 0 come.jobs (sym come.first ∙ none) (λ k d lt. subst (λ n. IsScriptAt steps rounds asked n (get_or come.jobs k d).script) (sym (zero-add k)) (come.scripts k d lt)) (omega (arith, come.many, le))

-- the script of a caller, by the commands of the trace
script_for : {E : Type 0} (steps : E → List Step) (o : Options) (asked : List E) (cs : List Command) (k : ℕ) (script : Script) → AreScripts steps asked cs → length asked ≡ o.mutators → IsScriptAt steps o.rounds asked k script → IsScriptFor o cs k script
script_for steps o asked cs k (Mutate made) are many h =
    (omega (arith, h.1, many), h.3 ∙ sym (ap steps (h.2 h.0)) ∙ sym (get_or-map steps asked k h.0 [] h.1) ∙ are.each k h.1)
script_for steps o asked cs k (Refine made) are many h = (omega (arith, h.0, many), h.1)

pub come_for : {E : Type 0} (steps : E → List Step) (o : Options) (asked : List E) (cs : List Command) (count most : ℕ) (refused : Option Refusal) (entries : List Entry) → AreScripts steps asked cs → length asked ≡ o.mutators
    → HasCome (IsScriptAt steps o.rounds asked) count most refused entries → HasCome (IsScriptFor o cs) count most refused entries
come_for steps o asked cs count most refused entries are many h = record {
  jobs = h.jobs;
  many = h.many;
  scripts = λ k d lt. script_for steps o asked cs k (get_or h.jobs k d).script are many (h.scripts k d lt);
  entered = h.entered;
  own = h.own;
  first = h.first;
  stored = h.stored;
  all = h.all;
}
