-- What is counted and recorded of the callers: their entries, and the stores among them.
use Rattle.std.specs.Prelude.{◌≡◌, ◌+◌, ◌∷◌, ◌++◌}
use Rattle.g1_shared.specs.Prelude.{ℕ, Bool, true, false, List, [], refl, sym, ap, ◌∙◌, length}
use Rattle.g1_shared.specs.Prelude.{append-nil, append_assoc, count_by, Shape, Entry}
use Rattle.g1_shared.specs.Prelude.{Machine, IsPermitted, table_after, History, BookTerms}
use Rattle.g1_shared.specs.Prelude.{is_store, terms_of, table_in, layout_in, fold, CallMade, Stored}
use Rattle.g1_shared.specs.Prelude.{Refined, Refused, entries_made, Recorded}
use Rattle.g1_shared.specs.Prelude.{store_entry, refine_entry}
use Rattle.std.specs.Coded.{Coded, code_by, coded×, coded_ℕ, coded_list}
use Rattle.atomic_table.specs.Seated.{TableId}
use Rattle.g1_core.specs.declared.config.Settings.{Settings}
use Rattle.g1_shared.specs.Answers.{AreAnswersAt, answers_then}

-- On what terms a book is shared: those that it keeps, the machine that it begins with, and which
-- records its callers have.
pub record SharedTerms : Type 0 where
  pub layout : Shape
  pub settings : Settings
  pub mutators : ℕ
  pub limit : ℕ
  pub began : Machine
  pub records : TableId

abbrev pub shared_terms : History → TableId → SharedTerms
shared_terms h records = record {
  layout = layout_in h;
  settings = h.machine.settings;
  mutators = h.mutators;
  limit = h.limit;
  began = h.machine;
  records = records;
}

abbrev pub kept_terms : SharedTerms → BookTerms
kept_terms t = record {
  layout = t.layout;
  settings = t.settings;
  mutators = t.mutators;
  limit = t.limit;
}

-- the names of the ledgers of all calls and of the stores, in how many parts each is, and which
-- records are with them
pub record LedgerNames : Type 0 where
  pub made : ℕ
  pub stored : ℕ
  pub parts : ℕ
  pub records : TableId

-- The book has just these entries, or where it keeps none their totals.
abbrev pub Remembers : Bool → List Entry → History → Type 0
Remembers true entries h = h.entries ≡ entries
Remembers false entries h =
    h.totals ≡ record { made = length entries; stored = count_by is_store entries }

-- no call was made
abbrev pub AreNone : Bool → History → Type 0
AreNone keeps h = Remembers keeps [] h

-- A permitted run of these entries led from the table at the beginning to that of this book, which
-- is on these terms, and remembers them.
pub record IsRunTo (keeps : Bool) (terms : SharedTerms) (entries : List Entry)
    (h : History) : Type 0 where
  pub kept : terms_of h ≡ kept_terms terms
  pub run : IsPermitted terms.began.state.table entries
  pub last : table_in h ≡ fold table_after terms.began.state.table entries
  pub remembers : Remembers keeps entries h

-- What a counted book keeps: the totals of its ledgers are those of the entries that its records
-- have, which led to it.
pub record AreCounted (keeps : Bool) (terms : SharedTerms) (made stored : ℕ) (r : Recorded)
    (h : History) : Type 0 where
  pub calls : made ≡ length r.entries
  pub stores : stored ≡ count_by is_store r.entries
  pub table : r.table ≡ terms.records
  pub led : IsRunTo keeps terms r.entries h

-- a caller's number, and the entries of its calls in order
pub record CallerCounts : Type 0 where
  pub number : ℕ
  pub did : List Entry

-- it is stored as the tuple of its fields
abbrev pub counts_code : Coded Entry → Coded CallerCounts
counts_code entry =
    code_by (ℕ × List Entry) (coded× coded_ℕ (coded_list entry)) (λ t. (t.number, t.did))
    (λ p. record { number = p.0; did = p.1 }) (λ _. refl)

-- how many entries a caller made, and how many of these are stores
abbrev pub made_by : CallerCounts → ℕ
made_by t = length t.did

abbrev pub stored_by : CallerCounts → ℕ
stored_by t = count_by is_store t.did

-- with these entries more
abbrev pub did_more : CallerCounts → List Entry → CallerCounts
did_more t es = record t { did = t.did ++ es }

-- The caller has the entries of these calls more, with answers that a book of this heap can give. A
-- refused call is no entry.
abbrev pub CountsDid : Shape → CallerCounts → List CallMade → CallerCounts → Type 0
CountsDid layout t calls u =
    (u ≡ did_more t (entries_made t.number calls)) × AreAnswersAt layout calls

pub did_nothing : (t : CallerCounts) → t ≡ did_more t []
did_nothing t = ap (λ es. record { number = t.number; did = es }) (sym (append-nil t.did))

entries_then : (n : ℕ) (xs ys : List CallMade)
    → entries_made n xs ++ entries_made n ys ≡ entries_made n (xs ++ ys)
entries_then n [] ys = refl
entries_then n (Stored slot target reply ∷ xs) ys =
    ap (λ es. store_entry n slot target reply ∷ es) (entries_then n xs ys)
entries_then n (Refined buffer reply ∷ xs) ys =
    ap (λ es. refine_entry n reply ∷ es) (entries_then n xs ys)
entries_then n (Refused refusal ∷ xs) ys = entries_then n xs ys

pub did_then : (t u v : CallerCounts) (xs ys : List CallMade)
    → u ≡ did_more t (entries_made t.number xs) → v ≡ did_more u (entries_made u.number ys)
    → v ≡ did_more t (entries_made t.number (xs ++ ys))
did_then t u v xs ys h k =
    k ∙ ap (λ n. did_more n (entries_made n.number ys)) h
    ∙ ap (λ es. record { number = t.number; did = es })
    (append_assoc t.did (entries_made t.number xs) (entries_made t.number ys)
    ∙ ap (λ es. t.did ++ es) (entries_then t.number xs ys))

pub counts_did_then : (layout : Shape) (t u v : CallerCounts) (xs ys : List CallMade)
    → CountsDid layout t xs u → CountsDid layout u ys v → CountsDid layout t (xs ++ ys) v
counts_did_then layout t u v xs ys h k =
    (did_then t u v xs ys h.0 k.0, answers_then layout xs ys h.1 k.1)
