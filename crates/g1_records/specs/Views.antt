-- What the seats of the records know, and the rule.
use Rattle.std.specs.Prelude.{◌≡◌, ◌+◌, ◌<◌, ◌==◌, ◌∷◌, ◌++◌, ℕ, true, false, List, []}
use Rattle.std.specs.Prelude.{if◌then◌else◌}
use mathlib.Core.Option.{some}
use lib.ListN.{get_elem?}
use Rattle.g1_core.specs.declared.entry.Entry.{Entry}
use Rattle.g1_core.specs.declared.entry.Call.TheVariants as call
use Rattle.g1_core.specs.declared.entry.Reply.TheVariants as reply
use Rattle.g1_records.specs.declared.view.View.{View}

abbrev pub no_entry : Entry
no_entry = record { caller = 0; call = call.Refine; reply = reply.Short; refined = [] }

-- the entries of this caller, in order
abbrev pub entries_by : ℕ → List Entry → List Entry
entries_by n [] = []
entries_by n (e ∷ es) = if e.caller == n then e ∷ entries_by n es else entries_by n es

-- the seat of the history
abbrev pub keeper : List Entry → ℕ → View
keeper all callers = record {
  knows = true;
  all = all;
  callers = callers;
  calls = false;
  number = 0;
  own = [];
}

-- the seat of a caller
abbrev pub caller_view : ℕ → List Entry → View
caller_view number own = record {
  knows = false;
  all = [];
  callers = 0;
  calls = true;
  number = number;
  own = own;
}

abbrev pub nobody : View
nobody = record { knows = false; all = []; callers = 0; calls = false; number = 0; own = [] }

-- the seat of the history with a caller's in it, and behind both these entries
abbrev pub both_with : View → View → List Entry → View
both_with v w es = record {
  knows = v.knows;
  all = v.all ++ es;
  callers = v.callers;
  calls = w.calls;
  number = w.number;
  own = w.own ++ es;
}

abbrev pub with_entry : View → View → Entry → View
with_entry v w e = both_with v w (e ∷ [])

abbrev pub taken : View → View → View
taken v w = record {
  knows = v.knows;
  all = v.all;
  callers = v.callers;
  calls = w.calls;
  number = w.number;
  own = w.own;
}

abbrev pub keeper_in : View → View
keeper_in v = keeper v.all v.callers

abbrev pub caller_in : View → View
caller_in v = caller_view v.number v.own

abbrev pub one_more : View → View
one_more v = keeper v.all (v.callers + 1)

abbrev pub new_caller : View → View
new_caller v = caller_view v.callers (entries_by v.callers v.all)

-- One seat at most knows the history. Of each number below `callers` one seat at most has the
-- record, which is what the history has of that number.
abbrev pub Fits : ℕ → (ℕ → ℕ) → ℕ → List Entry → ℕ → View → Type 0
Fits seat owner callers log by v =
    (v.knows ≡ true → (by ≡ seat) × (v.all ≡ log) × (v.callers ≡ callers))
    × (v.calls ≡ true → (by ≡ owner v.number) × (v.number < callers)
    × (v.own ≡ entries_by v.number log))

abbrev pub AreExact : List View → Type 0
AreExact views =
    (seat : ℕ) × (owner : ℕ → ℕ) × (callers : ℕ) × (log : List Entry)
    × ((by : ℕ) (v : View) → get_elem? views by ≡ some v → Fits seat owner callers log by v)

abbrev pub IsExact : View → Type 0
IsExact v = v.own ≡ entries_by v.number v.all

-- the view of a badge
abbrev pub view_in : List View → View
view_in [] = nobody
view_in (v ∷ vs) = v
