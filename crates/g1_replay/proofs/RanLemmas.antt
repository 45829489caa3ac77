-- What the jobs of a crew come to, by its book.
use Rattle.std.specs.Prelude.{◌≡◌, ◌≢◌, ◌≤◌, ◌==◌, ◌++◌}
use Rattle.g1_replay.specs.{◌∙◌, PrintsSome, ℕ, List, [], length, refl, sym, subst, ap, append-nil, Option, inl, inr, arith, Result, Ok, Err, IfErr, IfSome, cases_Bool, eqb-true, count_by, Shape, opening, Entry, IsPermitted, is_store, History, IsHistory, BookTerms, Refusal, Command, is_store_command, layout_in, stores_text, puts_none, Stop, BookFull, NoThread, CrewRan, CrewDrained, crew_book, AreOfCallers, Options, Some, None, crew_stop, book_draining, at, HasDrained, entries_of, MayStop, Prints, written_by, IsRunEnd, IsUnstarted}
use Rattle.g1_history.specs.declared.refusal.Refusal.TheVariants as refusal

pub may_end : (r : Result (Unit {0}) Stop) → IfErr r MayStop → IsRunEnd r
may_end (Ok done) h = tt
may_end (Err stop) h = inr h

-- drains start no thread
pub drains_alone : (r : Result (Unit {0}) Stop) → IfErr r MayStop → r ≢ Err NoThread
drains_alone r h e = subst (λ r. IfErr r MayStop) e h

-- a book with drains behind it is a run, and its text counts the stores in front of them
pub book_written : (asked : List Command) (old new : History) (stores : ℕ) (out out' : Option (List ℕ)) (r : Result (Unit {0}) Stop) → IfErr r MayStop → IsHistory new → stores ≡ count_by is_store old.entries → stores ≡ count_by is_store_command asked
    → HasDrained book_draining (layout_in old).regions stores (at old out) (at new out') r → PrintsSome (CrewDrained (crew_book old.limit (layout_in old) None old.entries) asked) out out' r
book_written asked old new stores out out' r stops h own many d =
    let p = d.played in
    let es : new.entries ≡ old.entries ++ entries_of p.pieces = p.grows.entries in
    let most : new.limit ≡ old.limit = ap (λ (t : BookTerms). t.limit) p.grows.terms in
    let shape : layout_in new ≡ layout_in old = ap (λ (t : BookTerms). t.layout) p.grows.terms in (
      stores_text stores ++ d.text,
      record {
        drained = d.drained;
        pieces = p.pieces;
        ends = may_end r stops;
        walked = p.walked;
        permitted = subst (λ (xs : List Entry). IsPermitted (opening (layout_in old)) xs) es (subst (λ (s : Shape). IsPermitted (opening s) new.entries) shape h.run);
        within = subst (λ (xs : List Entry). length xs ≤ old.limit) es (subst (λ (n : ℕ). length new.entries ≤ n) most h.within);
        full = λ e. ap (λ (xs : List Entry). length xs) (sym es) ∙ d.filled e ∙ most;
        all = d.all;
        stopped = tt;
        said = inr (drains_alone r stops, refl, sym own ∙ many, ap (λ n. stores_text n ++ d.text) own ∙ ap (λ t. stores_text (count_by is_store old.entries) ++ t) p.said);
      },
      d.written,
    )

abbrev ends_with : Stop → Result (Unit {0}) Stop
ends_with stop = Err stop

stopped_by : (refused : Option Refusal) (made history : ℕ) (stop : Stop) (text : List ℕ) → text ≡ [] → IfSome refused (λ why. stop ≡ crew_stop made history why)
    → IfSome refused (λ why. (ends_with stop ≡ ends_with (crew_stop made history why)) × (text ≡ []))
stopped_by None made history stop text none h = tt
stopped_by (Some why) made history stop text none h = (ap (λ (s : Stop). ends_with s) h, none)

-- nothing was drained
stopped_with : (asked : List Command) (l : Shape) (history : ℕ) (refused : Option Refusal) (entries : List Entry) (stop : Stop) → IsRunEnd (Err stop) → IsPermitted (opening l) entries → length entries ≤ history → (stop ≡ BookFull → length entries ≡ history)
    → IfSome refused (λ why. stop ≡ crew_stop (length entries) history why) → CrewDrained (crew_book history l refused entries) asked (Err stop) []
stopped_with asked l history refused entries stop ends permitted within full why = record {
  drained = 0;
  pieces = [];
  ends = ends;
  walked = tt;
  permitted = subst (λ (xs : List Entry). IsPermitted (opening l) xs) (sym (append-nil entries)) permitted;
  within = subst (λ (xs : List Entry). length xs ≤ history) (sym (append-nil entries)) within;
  full = λ e. ap (λ (xs : List Entry). length xs) (append-nil entries) ∙ full cc;
  all = λ e. cc;
  stopped = stopped_by refused (length entries) history stop [] refl why;
  said = inl (stop, refl, refl, refl);
}

-- a crew that was refused a call may end so, and with a full book only if it is full
crew_may : (made history : ℕ) (refused : Refusal) → MayStop (crew_stop made history refused) × (crew_stop made history refused ≡ BookFull → made ≡ history)
crew_may made history refusal.NoMemory = (tt, λ e. cc)
crew_may made history refusal.BookFull = elim (cases_Bool (made == history)) [
  | inl same ↦ rw same (tt, λ e. eqb-true made history same)
  | inr differ ↦ rw differ (tt, λ e. cc)
]

-- a job was refused
pub job_refused : (asked : List Command) (h : History) (refused : Refusal) (out : Option (List ℕ)) → IsHistory h
    → (text : List ℕ) × CrewDrained (crew_book h.limit (layout_in h) (Some refused) h.entries) asked (Err (crew_stop (length h.entries) h.limit refused)) text × Prints {V = Unit {0}} out out (Err (crew_stop (length h.entries) h.limit refused)) text
job_refused asked h refused out history =
    let may = crew_may (length h.entries) h.limit refused in
    let stop = crew_stop (length h.entries) h.limit refused in
    ([], stopped_with asked (layout_in h) h.limit (Some refused) h.entries stop (inr may.0) history.run history.within may.1 refl, puts_none out (written_by {V = Unit {0}} (Err stop)))

-- no job was run
pub not_started : (asked : List Command) (o : Options) (l : Shape) (stop : Stop) (out : Option (List ℕ)) → IsUnstarted stop → (text : List ℕ) × CrewRan o l asked (Err stop) text × Prints {V = Unit {0}} out out (Err stop) text
not_started asked o l stop out h = (
  [],
  record {
    refused = None;
    entries = [];
    made = inl (h, refl, refl);
    ended = stopped_with asked l o.history None [] stop (inl h) tt (omega arith) (λ e. absurd (subst IsUnstarted e h)) tt;
  },
  puts_none out (written_by {V = Unit {0}} (Err stop)),
)

-- the jobs came back, and what they left was drained
pub crew_ran : (asked : List Command) (o : Options) (l : Shape) (refused : Option Refusal) (entries : List Entry) (out out' : Option (List ℕ)) (r : Result (Unit {0}) Stop) → AreOfCallers o asked refused entries
    → (text : List ℕ) × CrewDrained (crew_book o.history l refused entries) asked r text × Prints out out' r text → (text : List ℕ) × CrewRan o l asked r text × Prints out out' r text
crew_ran asked o l refused entries out out' r made d = (d.0, record { refused = refused; entries = entries; made = inr made; ended = d.1 }, d.2)
