-- What the calls of a step ask.
use Rattle.std.proofs.Common.{◌≡◌, ℕ, ◌+◌, ◌<◌, List, [], ◌∷◌, true, false, refl, sym, ap, ◌∙◌, inl, inr, arith, append-nil}
use Rattle.atomic_table.specs.Table.{State, Allows, Splits, Joins, keeps}
use Rattle.g1_core.specs.declared.entry.Entry.{Entry}
use Rattle.g1_records.specs.declared.view.View.{View}
use Rattle.g1_records.specs.Views.{entries_by, nobody, with_entry, taken, keeper_in, caller_in, one_more, new_caller, AreExact, IsExact}
use Rattle.g1_records.proofs.Keeping.{of_mine, of_other, joins, splits, stays}

abbrev pub Rule : State (Unit {0}) View → Type 0
Rule s = AreExact s.views

pub enters : (id : ℕ) (v : View) (other : ℕ) (w : View) (e : Entry) → (v.knows ≡ true) → (w.calls ≡ true) → e.caller ≡ w.number → Joins Rule id v other w (with_entry v w e) nobody
enters id v other w e knows calls is s h at apart there = joins s.views id v other w (with_entry v w e) (e ∷ []) knows calls refl
    (λ log. of_mine w.number e log is) (λ log m ne. of_other m e log (λ same. ne (sym same ∙ is))) h at apart there

pub takes : (id : ℕ) (v : View) (other : ℕ) (w : View) → (v.knows ≡ true) → (w.calls ≡ true) → Joins Rule id v other w (taken v w) nobody
takes id v other w knows calls s h at apart there = joins s.views id v other w (taken v w) [] knows calls
    (λ i. record { knows = v.knows; all = sym (append-nil v.all) i; callers = v.callers; calls = w.calls; number = w.number; own = sym (append-nil w.own) i })
    (λ log. ap (entries_by w.number) (append-nil log) ∙ sym (append-nil (entries_by w.number log))) (λ log m ne. ap (entries_by m) (append-nil log)) h at apart there

pub makes : (id : ℕ) (v : View) → v.knows ≡ true → v.calls ≡ false → Splits Rule id v (one_more v) (new_caller v)
makes id v knows idle s h at = splits s.views id v (one_more v) (new_caller v) v.callers (v.callers + 1) (entries_by v.callers v.all) knows refl refl (inr refl) (omega arith)
    (λ seat owner callers log all_is callers_is f. ap (entries_by v.callers) all_is)
    (λ seat owner callers log callers_is f j u ne g calls same. let t = (g.1 calls).1 in omega (arith, callers_is, same)) h at

pub leaves : (id : ℕ) (v : View) → v.knows ≡ true → v.calls ≡ true → Splits Rule id v (keeper_in v) (caller_in v)
leaves id v knows calls s h at = splits s.views id v (keeper_in v) (caller_in v) v.number v.callers v.own knows refl refl (inl refl) below
    (λ seat owner callers log all_is callers_is f. (f.1 calls).2)
    (λ seat owner callers log callers_is f j u ne g c same. ne ((g.1 c).0 ∙ ap owner same ∙ sym (f.1 calls).0)) h at
  where
    below : v.number < v.callers
    below = let mine = h.4 id v at in let lt = (mine.1 calls).1 in let is = (mine.0 knows).2 in omega (arith, lt, is)

pub learns : (id : ℕ) (v : View) (carried : List (ℕ × Unit {0})) (slots i : ℕ) → v.knows ≡ true → v.calls ≡ true
    → Allows Rule slots id (v, carried) i (λ n. n) (λ n after. (after ≡ (v, carried)) × IsExact v)
learns id v carried slots i knows calls s h len at bound = (v, keeps, tt, stays s.views id v h at, (refl, exact))
  where
    exact : IsExact v
    exact = let own = h.4 id v at in (own.1 calls).2 ∙ ap (entries_by v.number) (sym (own.0 knows).1)
