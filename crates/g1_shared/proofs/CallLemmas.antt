-- One call more of a counted book, by one of its callers.
use Rattle.std.specs.Prelude.{◌≡◌, ◌<◌, ◌≤◌, ◌^◌, ◌↔◌, ◌+◌, ◌∷◌, ◌++◌}
use Rattle.g1_shared.specs.{ℕ, Bool, true, List, [], Option, Result, Ok, Err, false, length, count_by, cond, IfOk, OnErr, IsSome, sym, ap, ◌∙◌, subst, arith, refl, length-append, Taker, Entry, Refusal, History, CallTotals, IsKept, IsEnteredBy, IsFull, made_of, stored_of, totals_with, Mutator, CallerCounts, SharedTerms, Recorded, gained, Remembers, IsRunTo, AreCounted, AreNone, kept_terms, shared_terms, did_more, is_store, CallerState, called_once, count_by-le-length, fold-append, Table, IsAllowed, table_after}
use Rattle.std.specs.Result.{IsErr}
use Rattle.atomic_table.specs.Seated.{TableId}
use Rattle.g1_history.specs.declared.refusal.Refusal.TheVariants.{BookFull}
use Rattle.g1_core.proofs.RunLemmas.{permitted_push}
use Rattle.g1_shared.proofs.CountLemmas.{stores_more}

pub same_counted : (keeps : Bool) (terms : SharedTerms) (made stored : ℕ) (r : Recorded) (old new : History) → AreCounted keeps terms made stored r old → new ≡ old → AreCounted keeps terms made stored r new
same_counted keeps terms made stored r old new was is = subst (AreCounted keeps terms made stored r) (sym is) was

-- what a book remembers
pub remembered : (keeps : Bool) (es : List Entry) (h : History) → Remembers keeps es h → (made_of keeps h.entries h.totals ≡ length es) × (stored_of keeps h.entries h.totals ≡ count_by is_store es)
remembered true es h is = (ap (length {A = Entry}) is, ap (count_by is_store) is)
remembered false es h is = (ap (λ (t : CallTotals). t.made) is, ap (λ (t : CallTotals). t.stored) is)

remembers_more : (keeps : Bool) (es : List Entry) (old : History) (e : Entry) (new : History) → Remembers keeps es old → IsEnteredBy keeps old e new → Remembers keeps (es ++ e ∷ []) new
remembers_more true es old e new was h = h.entries ∙ ap (λ (l : List Entry). l ++ e ∷ []) was
remembers_more false es old e new was h =
    h.totals ∙ ap (λ (t : CallTotals). totals_with false t e) was
    ∙ (λ i. record { made = sym (length-append es (e ∷ [])) i; stored = stores_more es (es ++ e ∷ []) e (count_by is_store es) refl refl i })

-- one call more leads on
run_more : (keeps : Bool) (terms : SharedTerms) (es : List Entry) (old : History) (e : Entry) (new : History) → IsRunTo keeps terms es old → IsEnteredBy keeps old e new → IsRunTo keeps terms (es ++ e ∷ []) new
run_more keeps terms es old e new was h = let began = terms.began.state.table in record {
  kept = h.terms ∙ was.kept;
  run = permitted_push began es e was.run (subst (λ (t : Table). IsAllowed t e) was.last h.step.allowed);
  last = h.step.after ∙ ap (λ (t : Table). table_after t e) was.last ∙ sym (fold-append table_after began es (e ∷ []));
  remembers = remembers_more keeps es old e new was.remembers h;
}

plain_none : (n : ℕ) (b : Bool) → b ≡ false → n ≡ n + cond b 1 0
plain_none n true plain = absurd (cc plain)
plain_none n false plain = omega arith

-- an entered call counts in the total of all, a store in that of the stores, and both are recorded
pub entry_counted : (keeps : Bool) (terms : SharedTerms) (made now stored all : ℕ) (r s : Recorded) (old : History) (e f : Entry) (new : History) → AreCounted keeps terms made stored r old → IsEnteredBy keeps old e new → now ≡ made + 1 → all ≡ stored + cond (is_store e) 1 0 → s ≡ gained r f → f ≡ e → AreCounted keeps terms now all s new
entry_counted keeps terms made now stored all r s old e f new was h one count more same =
    let entries : s.entries ≡ r.entries ++ e ∷ [] = ap (λ (x : Recorded). x.entries) more ∙ ap (λ (x : Entry). r.entries ++ x ∷ []) same in
    record {
      calls = one ∙ ap (λ (n : ℕ). n + 1) was.calls ∙ sym (length-append r.entries (e ∷ [])) ∙ ap (length {A = Entry}) (sym entries);
      stores = count ∙ stores_more r.entries s.entries e stored was.stores entries;
      table = ap (λ (x : Recorded). x.table) more ∙ was.table;
      led = subst (λ (es : List Entry). IsRunTo keeps terms es new) (sym entries) (run_more keeps terms r.entries old e new was.led h);
    }

pub call_counted : (keeps : Bool) (terms : SharedTerms) (made now stored : ℕ) (r s : Recorded) (old : History) (e f : Entry) (new : History) → AreCounted keeps terms made stored r old → IsEnteredBy keeps old e new → is_store e ≡ false → now ≡ made + 1 → s ≡ gained r f → f ≡ e → AreCounted keeps terms now stored s new
call_counted keeps terms made now stored r s old e f new was h plain one more same = entry_counted keeps terms made now stored stored r s old e f new was h one (plain_none stored (is_store e) plain) more same

-- a book without calls is counted by new ledgers
pub none_counted : (keeps : Bool) (terms : SharedTerms) (made stored : ℕ) (r : Recorded) (h : History) (records : TableId) → AreNone keeps h → shared_terms h records ≡ terms → made ≡ 0 → stored ≡ 0 → r.table ≡ terms.records → r.entries ≡ [] → AreCounted keeps terms made stored r h
none_counted keeps terms made stored r h records none is no_call no_store table empty = record {
  calls = no_call ∙ ap (length {A = Entry}) (sym empty);
  stores = no_store ∙ ap (count_by is_store) (sym empty);
  table = table;
  led = subst (λ (es : List Entry). IsRunTo keeps terms es h) (sym empty) (record {
    kept = ap kept_terms is;
    run = tt;
    last = ap (λ (t : SharedTerms). t.began.state.table) is;
    remembers = none;
  });
}

pub kept_mutators : (keeps : Bool) (h : History) → IsKept keeps h → (1 ≤ h.mutators) × (h.mutators ≤ 8)
kept_mutators true h is = (is.mutators_low, is.mutators_high)
kept_mutators false h is = (is.mutators_low, is.mutators_high)

limit_fits : (keeps : Bool) (h : History) → IsKept keeps h → (stored_of keeps h.entries h.totals ≤ made_of keeps h.entries h.totals) × (made_of keeps h.entries h.totals ≤ h.limit) × (h.limit < 2 ^ 64)
limit_fits true h is = (count_by-le-length is_store h.entries, is.within, omega (arith, is.limit_high))
limit_fits false h is = (is.stored, is.within, is.limit_high)

-- the book counts one more than the total did
pub total_more : (keeps : Bool) (terms : SharedTerms) (made stored : ℕ) (r : Recorded) (old : History) (e : Entry) (new : History) → AreCounted keeps terms made stored r old → IsEnteredBy keeps old e new → made_of keeps new.entries new.totals ≡ made + 1
total_more keeps terms made stored r old e new was h =
    (remembered keeps (r.entries ++ e ∷ []) new (remembers_more keeps r.entries old e new was.led.remembers h)).0 ∙ length-append r.entries (e ∷ []) ∙ ap (λ (n : ℕ). n + 1) (sym was.calls)

-- there is room in the total for one more
pub total_fits : (keeps : Bool) (terms : SharedTerms) (made stored : ℕ) (r : Recorded) (old new : History) (e : Entry) → AreCounted keeps terms made stored r old → IsEnteredBy keeps old e new → IsKept keeps new → made + 1 < 2 ^ 64
total_fits keeps terms made stored r old new e was h kept =
    let fits = limit_fits keeps new kept in
    omega (arith, total_more keeps terms made stored r old e new was h, fits.1, fits.2)

-- and in that of the stores, of which there are no more
pub stored_fits : (keeps : Bool) (terms : SharedTerms) (made stored : ℕ) (r : Recorded) (old new : History) (e : Entry) → AreCounted keeps terms made stored r old → IsEnteredBy keeps old e new → is_store e ≡ true → IsKept keeps new → stored + 1 < 2 ^ 64
stored_fits keeps terms made stored r old new e was h store kept =
    let fits = limit_fits keeps new kept in
    let more = ap (λ (b : Bool). stored + cond b 1 0) (sym store) ∙ stores_more r.entries (r.entries ++ e ∷ []) e stored was.stores refl in
    let all = (remembered keeps (r.entries ++ e ∷ []) new (remembers_more keeps r.entries old e new was.led.remembers h)).1 in
    omega (arith, more, all, fits.0, fits.1, fits.2)

-- the counts with one entry more
pub counts_did : (number : ℕ) (did now : List Entry) (e : Entry) (t : CallerCounts) → record { number = number; did = did } ≡ t → now ≡ did ++ e ∷ [] → record { number = number; did = now } ≡ did_more t (e ∷ [])
counts_did number did now e t view more = ap (λ (l : List Entry). record { number = number; did = l }) more ∙ ap (λ (c : CallerCounts). did_more c (e ∷ [])) view

-- the caller with one call more
pub called : (counts new : CallerCounts) (m : Option Mutator) (t : Taker) (now : CallerState) (e : Entry) → record { counts = counts; mutator = m; taker = t } ≡ now → new ≡ did_more counts (e ∷ []) → record { counts = new; mutator = m; taker = t } ≡ called_once now e
called counts new m t now e view is = ap (λ (n : CallerCounts). record { counts = n; mutator = m; taker = t }) is ∙ ap (λ (c : CallerState). called_once c e) view

-- a full book, as it was before
pub full_as : {X : Type 0} (keeps : Bool) (r : Result X Refusal) (old now : History) → old ≡ now → ((r ≡ Err BookFull) ↔ IsFull keeps old) → (r ≡ Err BookFull) ↔ IsFull keeps now
full_as keeps r old now same h = subst (λ (b : History). (r ≡ Err BookFull) ↔ IsFull keeps b) same h

-- who is a mutator has its log still
pub still_some : (counts new : CallerCounts) (m : Option Mutator) (most : ℕ) (e : Entry) → (counts.number < most → IsSome m) → new ≡ did_more counts (e ∷ []) → new.number < most → IsSome m
still_some counts new m most e some is = subst (λ (t : CallerCounts). t.number < most → IsSome m) (sym is) some

-- what is said of an answer holds of a refusal
pub if_refused : {X E : Type 0} (r : Result X E) (P : X → Type 0) → IsErr r → IfOk r P
if_refused (Ok x) P is = absurd (cc is)
if_refused (Err e) P is = tt

pub err_refused : {X E C : Type 0} (r : Result X E) (old now new : History) (caller : C) → old ≡ now → new ≡ old → OnErr r ((new ≡ now) × (caller ≡ caller))
err_refused (Ok x) old now new caller same is = tt
err_refused (Err e) old now new caller same is = (is ∙ same, refl)

-- what each counted call needs
pub ruleset counted_call = (if_refused, err_refused, full_as, still_some, same_counted, called, total_more, total_fits, stored_fits, counts_did)
