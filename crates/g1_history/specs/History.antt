-- What contracts see of a book: its machine, how many mutators there are, what it remembers of its
-- calls, and how many it may have. A book keeps the entries of its calls, or only their totals.
use Rattle.std.specs.Prelude.{◌≡◌, ◌≤◌, ◌<◌, ◌+◌, ◌^◌, ◌↔◌, ◌∷◌, ◌++◌}
use Rattle.g1_history.specs.Prelude.{ℕ, Bool, true, false, cond, List, [], length, count_by, Option}
use Rattle.g1_history.specs.Prelude.{Some, None, refl, Result, Err, OnErr, Shape, IsShape, Machine}
use Rattle.g1_history.specs.Prelude.{IsLater, machine_code, new_machine, Table, opening, Drained}
use Rattle.g1_history.specs.Prelude.{Cards, Short, Call, Store, Entry, IsPermitted, IsStep, IsExact}
use Rattle.g1_history.specs.Prelude.{IfOk, table_of_history}
use Rattle.std.specs.Coded.{Coded, code_by, coded×, coded_ℕ, coded_list}
use Rattle.g1_core.specs.declared.config.Settings.{Settings}
use Rattle.g1_history.specs.declared.refusal.Refusal.{Refusal}
use Rattle.g1_history.specs.declared.refusal.Refusal.TheVariants.{BookFull}

abbrev pub stores_by : Call → Bool
stores_by (Store slot target) = true
stores_by _ = false

-- whether an entry is that of a store
abbrev pub is_store : Entry → Bool
is_store e = stores_by e.call

-- how many calls were made, and how many of these are stores
pub record CallTotals : Type 0 where
  pub made : ℕ
  pub stored : ℕ

-- What is remembered of the calls: their entries, or else their totals. How many there may be.
pub record Past : Type 0 where
  pub entries : List Entry
  pub totals : CallTotals
  pub limit : ℕ

pub record History : Type 0 where
  pub machine : Machine
  pub mutators : ℕ
  pub entries : List Entry
  pub totals : CallTotals
  pub limit : ℕ

-- a history is stored as the tuple of its fields
abbrev pub history_code : Coded Entry → Coded History
history_code entry =
    code_by (Machine × (ℕ × (List Entry × ((ℕ × ℕ) × ℕ))))
    (coded× machine_code
    (coded× coded_ℕ (coded× (coded_list entry) (coded× (coded× coded_ℕ coded_ℕ) coded_ℕ))))
    (λ h. (h.machine, (h.mutators, (h.entries, ((h.totals.made, h.totals.stored), h.limit)))))
    (λ p. record {
      machine = p.0;
      mutators = p.1.0;
      entries = p.1.1.0;
      totals = record { made = p.1.1.1.0.0; stored = p.1.1.1.0.1 };
      limit = p.1.1.1.1;
    }) (λ _. refl)

-- the history of a machine with this past
abbrev pub history_of : Machine → ℕ → Past → History
history_of m mutators p = record {
  machine = m;
  mutators = mutators;
  entries = p.entries;
  totals = p.totals;
  limit = p.limit;
}

abbrev pub table_in : History → Table
table_in h = h.machine.state.table

abbrev pub layout_in : History → Shape
layout_in h = h.machine.state.table.layout

-- what a book is opened with, and no call changes
pub record BookTerms : Type 0 where
  pub layout : Shape
  pub settings : Settings
  pub mutators : ℕ
  pub limit : ℕ

abbrev pub terms_of : History → BookTerms
terms_of h = record {
  layout = layout_in h;
  settings = h.machine.settings;
  mutators = h.mutators;
  limit = h.limit;
}

-- How many calls were made, and how many of them are stores, by the entries where these are kept.
abbrev pub made_of : Bool → List Entry → CallTotals → ℕ
made_of true entries totals = length entries
made_of false entries totals = totals.made

abbrev pub stored_of : Bool → List Entry → CallTotals → ℕ
stored_of true entries totals = count_by is_store entries
stored_of false entries totals = totals.stored

-- one entry more, where entries are kept, and else one more in the totals
abbrev pub entries_with : Bool → List Entry → Entry → List Entry
entries_with true entries e = entries ++ e ∷ []
entries_with false entries e = entries

abbrev pub totals_with : Bool → CallTotals → Entry → CallTotals
totals_with true totals e = totals
totals_with false totals e =
    record { made = totals.made + 1; stored = totals.stored + cond (is_store e) 1 0 }

abbrev pub past_with : Bool → Past → Entry → Past
past_with keeps p e =
    record p { entries = entries_with keeps p.entries e; totals = totals_with keeps p.totals e }

-- What every book keeps: its entries are a permitted run from the opening table, which ends in the
-- machine's table, and there is room for them.
pub record IsHistory (h : History) : Type 0 where
  pub shape : IsShape (layout_in h)
  pub run : IsPermitted (opening (layout_in h)) h.entries
  pub last : table_in h ≡ table_of_history (layout_in h) h.entries
  pub within : length h.entries ≤ h.limit
  pub limit_high : h.limit ≤ 1000000
  pub mutators_low : 1 ≤ h.mutators
  pub mutators_high : h.mutators ≤ 8

-- and where only the totals are kept
pub record IsTallied (h : History) : Type 0 where
  pub shape : IsShape (layout_in h)
  pub stored : h.totals.stored ≤ h.totals.made
  pub within : h.totals.made ≤ h.limit
  pub limit_high : h.limit < 2 ^ 64
  pub mutators_low : 1 ≤ h.mutators
  pub mutators_high : h.mutators ≤ 8

abbrev pub IsKept : Bool → History → Type 0
IsKept true h = IsHistory h
IsKept false h = IsTallied h

-- no call yet, over a new machine
abbrev pub opened : Shape → Settings → ℕ → ℕ → History
opened layout settings mutators limit = record {
  machine = new_machine layout settings;
  mutators = mutators;
  entries = [];
  totals = record { made = 0; stored = 0 };
  limit = limit;
}

-- The call was made and entered, once: the entry is a step of the plain table, and the core is
-- sound, on the same terms, with no fewer reads.
pub record IsEnteredBy (keeps : Bool) (old : History) (e : Entry) (new : History) : Type 0 where
  pub entries : new.entries ≡ entries_with keeps old.entries e
  pub totals : new.totals ≡ totals_with keeps old.totals e
  pub step : IsStep (table_in old) e (table_in new)
  pub terms : terms_of new ≡ terms_of old
  pub later : IsLater old.machine new.machine

abbrev pub IsEntered : History → Entry → History → Type 0
IsEntered old e new = IsEnteredBy true old e new

-- A call was entered, and did this to the core.
pub record Made (keeps : Bool) (old : History) (e : Entry) (does : Machine → Machine → Type 0)
    (new : History) : Type 0 where
  pub entered : IsEnteredBy keeps old e new
  pub did : does old.machine new.machine

-- No call more may be made.
abbrev pub IsFull : Bool → History → Type 0
IsFull keeps h = made_of keeps h.entries h.totals ≡ h.limit

-- `BookFull` comes exactly if no call more may be made, and a refusal changes nothing.
abbrev pub RefusesBy : {X : Type 0} → Bool → History → Result X Refusal → History → Type 0
RefusesBy keeps old result new =
    ((result ≡ Err BookFull) ↔ IsFull keeps old) × OnErr result (new ≡ old)

-- A call was entered and did its work, by what it returns; or it was refused.
pub record MakesCall {X : Type 0} (keeps : Bool) (old : History) (entry : X → Entry)
    (does : X → Machine → Machine → Type 0) (result : Result X Refusal)
    (new : History) : Type 0 where
  pub made : IfOk result (λ x. Made keeps old (entry x) (does x) new)
  pub err : RefusesBy keeps old result new

-- A drain of the region that is not short answers exactly the cards that references and history
-- say.
abbrev pub AnswersExactly : History → ℕ → Drained → Type 0
AnswersExactly h region (Cards cards refined) = IsExact (layout_in h) h.entries region cards
AnswersExactly h region (Short refined) = Unit {0}

-- which is known where the entries are kept
abbrev pub AnswersBy : Bool → History → ℕ → Drained → Type 0
AnswersBy true h region answer = AnswersExactly h region answer
AnswersBy false h region answer = Unit {0}

-- how many cards a buffer has, if there is one
abbrev pub cards_in : Option (List ℕ) → ℕ
cards_in None = 0
cards_in (Some cards) = length cards
