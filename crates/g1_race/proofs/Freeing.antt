-- Regions are freed: their slots are cut one after another, and the regions forgotten and emptied.
use Rattle.std.specs.Prelude.{◌≡◌, ◌+◌, ◌<◌, ◌≤◌, ◌∷◌, ◌⊎◌, ◌++◌, ◌*◌, ◌/◌}
use Rattle.g1_race.specs.{ℕ, zero, suc, not, eqb, Bool, List, [], Contains, map, take, length, get_or, Option, None, refl, sym, ap, ◌∙◌, subst, inl, arith, Some, none_refinable, Enters, EntersAny, Pending, StillReferenced, eq-eqb, true≢false, and_parts, take_more, map-append, Entry, IsStep, Table, Crosses, IsRecorded, stored, forgotten, refined_none, clear_entry, Cleared, Pause, table_at, same_word, ClearsAt, Forgets, IsRun, Cuts, ForgetsAll, EmptiesAll, Frees, IsFirstIntoAny, cut, cut_word, cut_entry, all_forgotten, emptied_entry, region_of, region_of_card, pair_exact, get_or_default, All, set, Kind, Null, Logged, inr, ⊎_elim, cases_eq, some, get_or-set_other, RaceShape, target_of, store_entry, unfilled, IsSameRace, SlotsBecome, one_word, NoFlagRises, RaisesOnly, StoresAt}
use Rattle.std.proofs.lemmas.List.Sums.{fold_more, fold-append}
use Rattle.g1_core.specs.declared.reply.ClearReply.{ClearReply}
use Rattle.std.proofs.lemmas.List.Elements.{All-append}
use Rattle.std.specs.FinSet as fin
use Rattle.g1_core.proofs.RunLemmas as runs
use Rattle.g1_race.proofs.SlotWords.{race_then}
use Rattle.g1_race.proofs.FlagWords.{rises_then}
use Rattle.g1_race.proofs.Forgetting.{card_in, in_card}

-- one run after another
pub run_then : (old mid new : Table) (first next : List Entry) → IsRun old first mid → IsRun mid next new → IsRun old (first ++ next) new
run_then old mid new [] next a b = subst (λ (t : Table). IsRun t next new) a b
run_then old mid new (e ∷ es) next a b = (a.0, a.1, run_then a.0 mid new es next a.2 b)

-- all of a race is as it was
pub same_race : (old : Pause) → IsSameRace old old
same_race old = record { layout = refl; shape = refl; address = refl; table_id = refl; racers = refl; sweepers = refl; logs = refl }

-- no flag rises, one call after another
pub quiet_then : (old mid new : Pause) → mid.shape ≡ old.shape → NoFlagRises old mid → NoFlagRises mid new → NoFlagRises old new
quiet_then old mid new same a b = rises_then old.shape (λ c. ⊥) (λ c. ⊥) (λ c. ⊥) old.words mid.words new.words (λ c e. e) (λ c e. e) a
    (subst (λ (k : RaceShape). RaisesOnly (λ c. ⊥) k mid.words new.words) same b)

-- the words of slots become others, one call after another
pub become_then : (f g h : ℕ → ℕ → ℕ) (old mid new : Pause) → mid.shape ≡ old.shape → ((p n : ℕ) → g p (f p n) ≡ h p n) → SlotsBecome f old mid → SlotsBecome g mid new → SlotsBecome h old new
become_then f g h old mid new same is a b p n lt at = b p (f p n) (subst (λ (k : RaceShape). p < k.slots) (sym same) lt) (a p n lt at) ∙ ap (λ (m : ℕ). some m) (is p n)

-- what no slot has is no reference
set_none : (refs : List (Option ℕ)) (i : ℕ) → get_or (set refs i None) i None ≡ None
set_none [] i = refl
set_none (r ∷ rs) zero = refl
set_none (r ∷ rs) (suc i) = set_none rs i

-- once null is stored, the slot refers to nothing and the others as before
no_longer : (t : Table) (slot place : ℕ) → Crosses (stored t slot None) slot place → ⊥
no_longer t slot place x = absurd (let e : None ≡ Some place = sym (set_none t.refs slot) ∙ x.refers in cc e)

as_before : (t : Table) (cleared slot place : ℕ) → Crosses (stored t cleared None) slot place → Crosses t slot place
as_before t cleared slot place x = elim (cases_eq slot cleared) [
  | inl e ↦ absurd (no_longer t cleared place (subst (λ (s : ℕ). Crosses (stored t cleared None) s place) e x))
  | inr ne ↦ record { refers = sym (get_or-set_other t.refs cleared slot None None ne) ∙ x.refers; across = x.across }
]

-- no slot needs null
pub cuts_none : (old new : Pause) (IsOf : ℕ → Type 0) → new ≡ old → ((slot place : ℕ) → IsOf slot → Crosses (table_at old) slot place → ⊥) → Cuts old IsOf new
cuts_none old new IsOf same closed = subst (Cuts old IsOf) (sym same) (record {
  race = same_race old;
  slots = [];
  only = λ k d lt. absurd (omega (arith, lt));
  words = λ p n lt at. at;
  table = refl;
  steps = λ caller. refl;
  fewer = λ slot place x. x;
  closed = closed;
  flags = λ c lt b. inl b;
})

-- a slot that refers to nothing, and one that refers inside its region
pub null_closed : (t : Table) (slot : ℕ) → None ≡ target_of t slot → (other place : ℕ) → other ≡ slot → Crosses t other place → ⊥
null_closed t slot null other place of x = absurd (let e : None ≡ Some place = null ∙ (ap (target_of t) (sym of) ∙ x.refers) in cc e)

pub inside_closed : (t : Table) (slot inside : ℕ) → Some inside ≡ target_of t slot → region_of t.layout slot ≡ region_of t.layout inside → (other place : ℕ) → other ≡ slot → Crosses t other place → ⊥
inside_closed t slot inside refers within other place of x = x.across (ap (region_of t.layout) of ∙ (within
    ∙ ap (region_of t.layout) (let e : Some inside ≡ Some place = refers ∙ (ap (target_of t) (sym of) ∙ x.refers) in let f : inside ≡ place = cc in f)))

-- a slot gets null that refers into another region
pub cuts_one : (old read new : Pause) (slot place : ℕ) (kind : Kind) → read ≡ old → Crosses (table_at old) slot place → StoresAt read slot None kind new → Cuts old (λ other. other ≡ slot) new
cuts_one old read new slot place kind same out stores = from (subst (λ (h : Pause). StoresAt h slot None kind new) same stores)
  where
    from : StoresAt old slot None kind new → Cuts old (λ other. other ≡ slot) new
    from s = record {
      race = s.race;
      slots = slot ∷ [];
      only = λ k d lt. one k d lt;
      words = s.words;
      table = s.table;
      steps = λ caller. (table_at new, subst (λ (x : Kind). IsStep (table_at old) (store_entry caller slot None (unfilled x)) (table_at new)) s.kind_is (s.step caller), refl);
      fewer = λ other target x. as_before (table_at old) slot other target (subst (λ (t : Table). Crosses t other target) s.table x);
      closed = λ other target e x. no_longer (table_at old) slot target (subst (λ (n : ℕ). Crosses (stored (table_at old) slot None) n target) e (subst (λ (t : Table). Crosses t other target) s.table x));
      flags = λ c lt b. ⊎_elim (λ o. inl o) (λ r. absurd (let e : Null ≡ Logged = sym s.kind_is ∙ r.1.0 in cc e)) (s.flags c lt b);
    }
      where
        one : All (λ s. (s ≡ slot) × ((p : ℕ) × Crosses (table_at old) s p)) (slot ∷ [])
        one zero d lt = (refl, (place, out))
        one (suc k) d lt = absurd (omega (arith, lt))

-- slots get null, one call after another
pub cuts_then : (old mid new : Pause) (First Next Both : ℕ → Type 0) → ((s : ℕ) → First s → Both s) → ((s : ℕ) → Next s → Both s) → ((s : ℕ) → Both s → First s ⊎ Next s) → Cuts old First mid → Cuts mid Next new → Cuts old Both new
cuts_then old mid new First Next Both first next either a b = record {
  race = race_then old mid new a.race b.race;
  slots = a.slots ++ b.slots;
  only = All-append (λ s. Both s × ((place : ℕ) × Crosses (table_at old) s place)) a.slots b.slots
      (λ k d lt. let x = a.only k d lt in (first _ x.0, x.1))
      (λ k d lt. let x = b.only k d lt in (next _ x.0, (x.1.0, a.fewer _ x.1.0 x.1.1)));
  words = become_then (cut_word a.slots) (cut_word b.slots) (cut_word (a.slots ++ b.slots)) old mid new a.race.shape
      (λ p n. sym (fold-append (λ (left changed : ℕ). one_word changed 0 p left) n a.slots b.slots)) a.words b.words;
  table = b.table ∙ (ap (cut b.slots) a.table ∙ sym (fold-append (λ (left : Table) (slot : ℕ). stored left slot None) (table_at old) a.slots b.slots));
  steps = λ caller. subst (λ (es : List Entry). IsRun (table_at old) es (table_at new)) (sym (map-append (cut_entry caller) a.slots b.slots))
      (run_then (table_at old) (table_at mid) (table_at new) (map (cut_entry caller) a.slots) (map (cut_entry caller) b.slots) (a.steps caller) (b.steps caller));
  fewer = λ slot place x. a.fewer slot place (b.fewer slot place x);
  closed = λ slot place of x. ⊎_elim (λ (f : First slot). a.closed slot place f (b.fewer slot place x)) (λ (n : Next slot). b.closed slot place n x) (either slot of);
  flags = quiet_then old mid new a.race.shape a.flags b.flags;
}

-- the same said otherwise
pub cuts_as : (old new : Pause) (Of Same : ℕ → Type 0) → ((s : ℕ) → Of s → Same s) → ((s : ℕ) → Same s → Of s) → Cuts old Of new → Cuts old Same new
cuts_as old new Of Same there back c = record {
  race = c.race;
  slots = c.slots;
  only = λ k d lt. let x = c.only k d lt in (there _ x.0, x.1);
  words = c.words;
  table = c.table;
  steps = c.steps;
  fewer = c.fewer;
  closed = λ slot place of x. c.closed slot place (back slot of) x;
  flags = c.flags;
}

-- slots from one on, as many as this, and then the next one

abbrev pub InRange : ℕ → ℕ → ℕ → Type 0
InRange first count slot = (first ≤ slot) × (slot < first + count)

pub range_on : (old mid new : Pause) (first i slot : ℕ) → slot ≡ first + i → Cuts old (InRange first i) mid → Cuts mid (λ other. other ≡ slot) new → Cuts old (InRange first (i + 1)) new
range_on old mid new first i slot is = cuts_then old mid new (InRange first i) (λ other. other ≡ slot) (InRange first (i + 1))
    (λ s h. (h.0, let lt : s < first + i = h.1 in omega (arith, lt)))
    (λ s e. (let f : s ≡ slot = e in omega (arith, f, is), let f : s ≡ slot = e in omega (arith, f, is)))
    (λ s h. elim (cases_eq s slot) [ inl e ↦ inr e | inr ne ↦ inl (h.0, let lt : s < first + (i + 1) = h.1 in omega (arith, lt, ne, is)) ])

-- those of a region
pub region_cut : (old new : Pause) (region span i : ℕ) → span ≡ old.layout.cards * old.layout.slots → 0 < span → i ≡ span → Cuts old (InRange (region * span) i) new → Cuts old (λ slot. region_of old.layout slot ≡ region) new
region_cut old new region span i is pos all cuts = subst (λ (n : ℕ). Cuts old (λ slot. slot / n ≡ region) new) is
    (cuts_as old new (InRange (region * span) span) (λ slot. slot / span ≡ region) (λ s h. in_card span region s h.0 h.1) (λ s e. card_in span region s pos e)
    (subst (λ (n : ℕ). Cuts old (InRange (region * span) n) new) all cuts))

-- those of the first regions of a list, and then of the next one

abbrev pub IsOfFirst : Pause → List ℕ → ℕ → ℕ → Type 0
IsOfFirst old regions i slot = let region = region_of old.layout slot in (k : ℕ) × (k < i) × (get_or regions k region ≡ region)

pub regions_on : (old mid new : Pause) (regions : List ℕ) (i : ℕ) → i < length regions → Cuts old (IsOfFirst old regions i) mid → Cuts mid (λ slot. region_of mid.layout slot ≡ get_or regions i 0) new → Cuts old (IsOfFirst old regions (i + 1)) new
regions_on old mid new regions i lt a = cuts_then old mid new (IsOfFirst old regions i) (λ slot. region_of mid.layout slot ≡ get_or regions i 0) (IsOfFirst old regions (i + 1))
    (λ s h. (h.0, omega (arith, h.1), h.2))
    (λ s e. (i, omega arith, get_or_default regions i (region_of old.layout s) 0 lt ∙ (sym e ∙ ap (λ l. region_of l s) a.race.layout)))
    (λ s h. elim (cases_eq h.0 i) [
      | inl e ↦ inr (ap (λ l. region_of l s) a.race.layout ∙ (sym h.2 ∙ (ap (λ (k : ℕ). get_or regions k (region_of old.layout s)) e ∙ get_or_default regions i (region_of old.layout s) 0 lt)))
      | inr ne ↦ inl (h.0, omega (arith, h.1, ne), h.2)
    ])
    a

-- a region of the list
pub given_at : (regions : List ℕ) (i region : ℕ) → i < length regions → region ≡ get_or regions i 0 → Contains regions region
given_at regions i region lt is = (i, lt, get_or_default regions i region 0 lt ∙ sym is)

-- one region after another

pub forgets_on : (old mid new : Pause) (regions : List ℕ) (i region : ℕ) → i < length regions → region ≡ get_or regions i 0 → ForgetsAll old (take i regions) mid → Forgets mid region new → ForgetsAll old (take (i + 1) regions) new
forgets_on old mid new regions i region lt is a b = record {
  race = race_then old mid new a.race b.race;
  words = become_then same_word same_word same_word old mid new a.race.shape (λ p n. refl) a.words b.words;
  table = b.table ∙ ((λ j. forgotten (is j) (a.table j)) ∙ sym (fold_more (λ (left : Table) (r : ℕ). forgotten r left) (table_at old) regions i 0 lt));
  flags = quiet_then old mid new a.race.shape a.flags b.flags;
}

pub empties_on : (old mid new : Pause) (regions : List ℕ) (i region : ℕ) → i < length regions → region ≡ get_or regions i 0 → EmptiesAll old (take i regions) mid → ClearsAt mid region Cleared new → EmptiesAll old (take (i + 1) regions) new
empties_on old mid new regions i region lt is a b = record {
  race = race_then old mid new a.race b.race;
  words = become_then same_word same_word same_word old mid new a.race.shape (λ p n. refl) a.words b.words;
  steps = λ caller. subst (λ (rs : List ℕ). IsRun (table_at old) (map (emptied_entry caller) rs) (table_at new)) (sym (take_more regions i 0 lt))
      (subst (λ (es : List Entry). IsRun (table_at old) es (table_at new)) (sym (map-append (emptied_entry caller) (take i regions) (get_or regions i 0 ∷ [])))
      (run_then (table_at old) (table_at mid) (table_at new) (map (emptied_entry caller) (take i regions)) (emptied_entry caller (get_or regions i 0) ∷ []) (a.steps caller)
      (table_at new, subst (λ (r : ℕ). IsStep (table_at mid) (clear_entry caller r Cleared) (table_at new)) is (b.step caller), refl)));
  flags = quiet_then old mid new a.race.shape a.flags b.flags;
}

-- what a table has besides its pairs is what the one before it had
pub record IsLike (old new : Table) : Type 0 where
  pub layout : new.layout ≡ old.layout
  pub refs : new.refs ≡ old.refs
  pub pending : new.pending ≡ old.pending

pub like_crosses : (old new : Table) (slot place : ℕ) → IsLike old new → Crosses new slot place → Crosses old slot place
like_crosses old new slot place e x = record {
  refers = ap (λ (rs : List (Option ℕ)). get_or rs slot None) (sym e.refs) ∙ x.refers;
  across = λ same. x.across (ap (λ l. region_of l slot) e.layout ∙ (same ∙ ap (λ l. region_of l place) (sym e.layout)));
}

-- what is neither the first of a list nor one of the others
not_in : (q : ℕ) (qs : List ℕ) (x : ℕ) → (q ≡ x → ⊥) → (Contains qs x → ⊥) → Contains (q ∷ qs) x → ⊥
not_in q qs x here rest (zero, lt, e) = here e
not_in q qs x here rest (suc k, lt, e) = rest (k, omega (arith, lt), e)

-- the cards of regions are forgotten

pub forgotten_like : (regions : List ℕ) (t : Table) → IsLike t (all_forgotten regions t)
forgotten_like [] t = record { layout = refl; refs = refl; pending = refl }
forgotten_like (r ∷ rs) t = let e = forgotten_like rs (forgotten r t) in record { layout = e.layout; refs = e.refs; pending = e.pending }

forgotten_pair : (region : ℕ) (t : Table) (card r : ℕ) → IsRecorded (forgotten region t) card r → IsRecorded t card r × (region ≡ region_of_card t.layout card → ⊥)
forgotten_pair region t card r h =
    let keep : ℕ × ℕ → Bool = λ x. not (eqb (region_of_card t.layout x.0) region) in
    let a = and_parts _ _ (sym (fin.contains-retain t.recorded keep (card, r) (λ x e. ap keep (sym (pair_exact (card, r) x e)))) ∙ h) in
    (a.0, λ e. true≢false (sym a.1 ∙ ap not (eq-eqb (region_of_card t.layout card) region (sym e))))

pub forgotten_pairs : (regions : List ℕ) (t : Table) (card r : ℕ) → IsRecorded (all_forgotten regions t) card r → IsRecorded t card r × (Contains regions (region_of_card t.layout card) → ⊥)
forgotten_pairs [] t card r h = (h, λ c. absurd (omega (arith, c.1)))
forgotten_pairs (q ∷ qs) t card r h =
    let rest = forgotten_pairs qs (forgotten q t) card r h in
    let here = forgotten_pair q t card r rest.0 in
    (here.0, not_in q qs (region_of_card t.layout card) here.1 rest.1)

-- the sets of regions are emptied

abbrev without_set : Table → ℕ → Table
without_set t region = record { layout = t.layout; refs = t.refs; pending = t.pending; recorded = fin.retain t.recorded (λ pair. not (eqb pair.1 region)) }

cleared_is : (caller region : ℕ) (old new : Table) → IsStep old (emptied_entry caller region) new → new ≡ without_set old region
cleared_is caller region old new s = s.after ∙ ap (λ (t : Table). without_set t region) (refined_none old)

pub emptied_like : (caller : ℕ) (regions : List ℕ) (old new : Table) → IsRun old (map (emptied_entry caller) regions) new → IsLike old new
emptied_like caller [] old new e = subst (IsLike old) (sym e) (record { layout = refl; refs = refl; pending = refl })
emptied_like caller (r ∷ rs) old new (mid, s, run) =
    let e = emptied_like caller rs mid new run in
    let is = cleared_is caller r old mid s in
    record { layout = e.layout ∙ ap (λ (t : Table). t.layout) is; refs = e.refs ∙ ap (λ (t : Table). t.refs) is; pending = e.pending ∙ ap (λ (t : Table). t.pending) is }

pub emptied_pairs : (caller : ℕ) (regions : List ℕ) (old new : Table) → IsRun old (map (emptied_entry caller) regions) new → (card r : ℕ) → IsRecorded new card r → IsRecorded old card r × (Contains regions r → ⊥)
emptied_pairs caller [] old new e card r h = (subst (λ (t : Table). IsRecorded t card r) e h, λ c. absurd (omega (arith, c.1)))
emptied_pairs caller (q ∷ qs) old new (mid, s, run) card r h =
    let rest = emptied_pairs caller qs mid new run card r h in
    let here = and_parts _ _ (sym (runs.forgotten old.recorded q (card, r)) ∙ subst (λ (t : Table). IsRecorded t card r) (cleared_is caller q old mid s) rest.0) in
    (here.0, not_in q qs r (λ e. true≢false (sym here.1 ∙ ap not (eq-eqb r q (sym e)))) rest.1)

-- null in slots leaves what is pending
pub cut_pending : (slots : List ℕ) (t : Table) → (cut slots t).pending ≡ t.pending
cut_pending [] t = refl
cut_pending (s ∷ ss) t = cut_pending ss (stored t s None)

-- once the regions' slots are cut and their cards forgotten, no slot refers into one of them

pub none_into : (old mid kept : Pause) (regions : List ℕ) → IsFirstIntoAny (table_at old) regions None → Cuts old (λ slot. Contains regions (region_of old.layout slot)) mid → ForgetsAll mid regions kept → (slot place : ℕ) → Crosses (table_at kept) slot place → Contains regions (region_of kept.layout place) → ⊥
none_into old mid kept regions none cuts forgets slot place x into =
    let y = like_crosses (table_at mid) (table_at kept) slot place (subst (IsLike (table_at mid)) (sym forgets.table) (forgotten_like regions (table_at mid))) x in
    let z = cuts.fewer slot place y in
    none slot (record { place = place; refers = z.refers; into = subst (λ l. Contains regions (region_of l place)) (forgets.race.layout ∙ cuts.race.layout) into; outside = λ of. cuts.closed slot place of y })

pub still_clean : (old mid kept : Pause) (regions : List ℕ) → (table_at old).pending ≡ fin.empty → Cuts old (λ slot. Contains regions (region_of old.layout slot)) mid → ForgetsAll mid regions kept → (table_at kept).pending ≡ fin.empty
still_clean old mid kept regions clean cuts forgets =
    ap (λ (t : Table). t.pending) forgets.table ∙ ((forgotten_like regions (table_at mid)).pending ∙ (ap (λ (t : Table). t.pending) cuts.table ∙ (cut_pending cuts.slots (table_at old) ∙ clean)))

-- the regions are free, by one part after another
pub frees : (old mid kept new : Pause) (regions : List ℕ) → (table_at old).pending ≡ fin.empty → IsFirstIntoAny (table_at old) regions None → Cuts old (λ slot. Contains regions (region_of old.layout slot)) mid → ForgetsAll mid regions kept → EmptiesAll kept regions new → Frees old regions new
frees old mid kept new regions clean none cuts forgets empties = record {
  race = race_then old kept new (race_then old mid kept cuts.race forgets.race) empties.race;
  slots = cuts.slots;
  only = cuts.only;
  words = become_then (cut_word cuts.slots) same_word (cut_word cuts.slots) old kept new (forgets.race.shape ∙ cuts.race.shape) (λ p n. refl)
      (become_then (cut_word cuts.slots) same_word (cut_word cuts.slots) old mid kept cuts.race.shape (λ p n. refl) cuts.words forgets.words) empties.words;
  stores = λ caller. subst (IsRun (table_at old) (map (cut_entry caller) cuts.slots)) cuts.table (cuts.steps caller);
  clears = λ caller. subst (λ (t : Table). IsRun t (map (emptied_entry caller) regions) (table_at new)) between (empties.steps caller);
  closed = λ slot place x.
      let y = like_crosses (table_at mid) (table_at new) slot place like x in
      let outside : Contains regions (region_of old.layout slot) → ⊥ = λ of. cuts.closed slot place of y in
      let z = cuts.fewer slot place y in
      (outside, λ into. none slot (record { place = place; refers = z.refers; into = into; outside = outside }));
  clean = like.pending ∙ (ap (λ (t : Table). t.pending) cuts.table ∙ (cut_pending cuts.slots (table_at old) ∙ clean));
  unrecorded = λ card region h.
      let e = emptied_pairs 0 regions (table_at kept) (table_at new) (empties.steps 0) card region h in
      let f = forgotten_pairs regions (table_at mid) card region (subst (λ (t : Table). IsRecorded t card region) forgets.table e.0) in
      (subst (λ l. Contains regions (region_of_card l card) → ⊥) cuts.race.layout f.1, e.1);
  flags = quiet_then old kept new (forgets.race.shape ∙ cuts.race.shape) (quiet_then old mid kept cuts.race.shape cuts.flags forgets.flags) empties.flags;
}
  where
    between : table_at kept ≡ all_forgotten regions (cut cuts.slots (table_at old))
    between = forgets.table ∙ ap (all_forgotten regions) cuts.table

    like : IsLike (table_at mid) (table_at new)
    like =
        let e = emptied_like 0 regions (table_at kept) (table_at new) (empties.steps 0) in
        let f = subst (IsLike (table_at mid)) (sym forgets.table) (forgotten_like regions (table_at mid)) in
        record { layout = e.layout ∙ f.layout; refs = e.refs ∙ f.refs; pending = e.pending ∙ f.pending }
