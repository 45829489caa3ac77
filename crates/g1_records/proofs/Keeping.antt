-- Each step keeps the rule.
use Rattle.std.proofs.Common.{◌≡◌, ◌≢◌, ◌⊎◌, ℕ, zero, suc, ◌+◌, ◌<◌, List, [], ◌∷◌, ◌++◌, length, set, Bool, true, false, true≢false, cond, eqb, eq-eqb, ne_eqb, refl, sym, ap, ◌∙◌, subst, inl, inr, ⊎_elim, arith}
use mathlib.Core.Option.{some, some-ne-none, some-injective}
use lib.ListN.{get_elem?}
use Rattle.atomic_table.proofs.Lists.{at_set}
use Rattle.g1_core.specs.declared.entry.Entry.{Entry}
use Rattle.g1_records.specs.declared.view.View.{View}
use Rattle.g1_records.specs.Views.{entries_by, keeper, caller_view, both_with, nobody, Fits, AreExact}

off : false ≡ true → ⊥
off e = true≢false (sym e)

-- the last of a list, or one before it
at_end : {A : Type 0} (l : List A) (a b : A) (j : ℕ) → get_elem? (l ++ a ∷ []) j ≡ some b → (get_elem? l j ≡ some b) ⊎ ((j ≡ length l) × (a ≡ b))
at_end [] a b zero e = inr (refl, some-injective a b e)
at_end [] a b (suc j) e = absurd (some-ne-none b (sym e))
at_end (x ∷ xs) a b zero e = inl e
at_end (x ∷ xs) a b (suc j) e = ⊎_elim (λ t. inl t) (λ t. inr (ap suc t.0, t.1)) (at_end xs a b j e)

at_short : {A : Type 0} (l : List A) (a : A) (j : ℕ) → get_elem? l j ≡ some a → j < length l
at_short [] a j e = absurd (some-ne-none a (sym e))
at_short (x ∷ xs) a zero e = omega arith
at_short (x ∷ xs) a (suc j) e = let t = at_short xs a j e in omega arith

-- an entry of this caller, and of another
more_mine : (n : ℕ) (e x : Entry) (ys xs : List Entry) → ys ≡ xs ++ e ∷ [] → (b : Bool) → cond b (x ∷ ys) ys ≡ cond b (x ∷ xs) xs ++ e ∷ []
more_mine n e x ys xs is true = ap (λ l. x ∷ l) is
more_mine n e x ys xs is false = is

pub of_mine : (n : ℕ) (e : Entry) (xs : List Entry) → e.caller ≡ n → entries_by n (xs ++ e ∷ []) ≡ entries_by n xs ++ e ∷ []
of_mine n e [] is = ap (λ b. cond b (e ∷ []) []) (eq-eqb e.caller n is)
of_mine n e (x ∷ xs) is = more_mine n e x (entries_by n (xs ++ e ∷ [])) (entries_by n xs) (of_mine n e xs is) (eqb x.caller n)

pub of_other : (n : ℕ) (e : Entry) (xs : List Entry) → e.caller ≢ n → entries_by n (xs ++ e ∷ []) ≡ entries_by n xs
of_other n e [] not = ap (λ b. cond b (e ∷ []) []) (ne_eqb e.caller n not)
of_other n e (x ∷ xs) not = ap (λ l. cond (eqb x.caller n) (x ∷ l) l) (of_other n e xs not)

-- the owners, with another one entries_by n
abbrev owned : (ℕ → ℕ) → ℕ → ℕ → ℕ → ℕ
owned owner n by m = cond (eqb m n) by (owner m)

owned_here : (owner : ℕ → ℕ) (n by : ℕ) → owned owner n by n ≡ by
owned_here owner n by = ap (λ b. cond b by (owner n)) (eq-eqb n n refl)

owned_else : (owner : ℕ → ℕ) (n by m : ℕ) → m ≢ n → owned owner n by m ≡ owner m
owned_else owner n by m not = ap (λ b. cond b by (owner m)) (ne_eqb m n not)

-- what else is known of a seat stays so
fits_on : (seat : ℕ) (owner : ℕ → ℕ) (callers : ℕ) (log now : List Entry) (n to more j : ℕ) (u : View) → Fits seat owner callers log j u → (u.knows ≡ true → ⊥) → (u.calls ≡ true → u.number ≢ n)
    → callers ≡ more ⊎ callers + 1 ≡ more → ((m : ℕ) → m ≢ n → entries_by m now ≡ entries_by m log) → Fits seat (owned owner n to) more now j u
fits_on seat owner callers log now n to more j u h not apart grows same = (
  (λ k. absurd (not k)),
  (λ c. let t = h.1 c in let ne = apart c in (t.0 ∙ sym (owned_else owner n to u.number ne), below grows t.1, t.2 ∙ sym (same u.number ne))),
)
  where
    below : callers ≡ more ⊎ callers + 1 ≡ more → u.number < callers → u.number < more
    below (inl e) lt = omega arith
    below (inr e) lt = omega arith

nobody_fits : (seat : ℕ) (owner : ℕ → ℕ) (callers : ℕ) (log : List Entry) (j : ℕ) (u : View) → nobody ≡ u → Fits seat owner callers log j u
nobody_fits seat owner callers log j u is = subst (Fits seat owner callers log j) is ((λ k. absurd (off k)), (λ c. absurd (off c)))

-- the rule at the start
pub begins : AreExact (keeper [] 0 ∷ [])
begins = (0, (λ n. 0), 0, [], one)
  where
    one : (by : ℕ) (v : View) → get_elem? (keeper [] 0 ∷ []) by ≡ some v → Fits 0 (λ n. 0) 0 [] by v
    one zero v e = subst (Fits 0 (λ n. 0) 0 [] 0) (some-injective _ _ e) ((λ _. (refl, refl, refl)), (λ c. absurd (off c)))
    one (suc by) v e = absurd (some-ne-none v (sym e))

-- A caller's seat goes into the book's, which then has this view.
pub joins : (views : List View) (id : ℕ) (v : View) (other : ℕ) (w both : View) (tail : List Entry) → v.knows ≡ true → w.calls ≡ true
    → both ≡ both_with v w tail
    → ((log : List Entry) → entries_by w.number (log ++ tail) ≡ entries_by w.number log ++ tail) → ((log : List Entry) (m : ℕ) → m ≢ w.number → entries_by m (log ++ tail) ≡ entries_by m log)
    → AreExact views → get_elem? views id ≡ some v → ¬ (other ≡ id) → get_elem? (set views id both) other ≡ some w → AreExact (set (set views id both) other nobody)
joins views id v other w both tail knows calls is mine others (seat, owner, callers, log, all) at apart there = (seat, owned owner w.number id, callers, log ++ tail, each)
  where
    was : get_elem? views other ≡ some w
    was = ⊎_elim (λ (t : (other ≡ id) × (both ≡ w)). absurd (apart t.0)) (λ (t : (other ≢ id) × (get_elem? views other ≡ some w)). t.1) (at_set views id other both w there)

    book : (id ≡ seat) × (v.all ≡ log) × (v.callers ≡ callers)
    book = (all id v at).0 knows

    caller : (other ≡ owner w.number) × (w.number < callers) × (w.own ≡ entries_by w.number log)
    caller = (all other w was).1 calls

    new : View
    new = both_with v w tail

    here : Fits seat (owned owner w.number id) callers (log ++ tail) id new
    here = (
      (λ _. (book.0, ap (λ l. l ++ tail) book.1, book.2)),
      (λ _. (sym (owned_here owner w.number id), caller.1, ap (λ l. l ++ tail) caller.2 ∙ sym (mine log))),
    )

    else : (j : ℕ) (u : View) → j ≢ id → j ≢ other → get_elem? views j ≡ some u → Fits seat (owned owner w.number id) callers (log ++ tail) j u
    else j u ne far e = let h = all j u e in
        fits_on seat owner callers log (log ++ tail) w.number id callers j u h (λ k. ne ((h.0 k).0 ∙ sym book.0)) (λ c same. far ((h.1 c).0 ∙ ap owner same ∙ sym caller.0)) (inl refl) (others log)

    near : (j : ℕ) (u : View) → j ≢ other → ((j ≡ id) × (both ≡ u)) ⊎ ((j ≢ id) × (get_elem? views j ≡ some u)) → Fits seat (owned owner w.number id) callers (log ++ tail) j u
    near j u far (inl t) = subst (λ (y : ℕ × View). Fits seat (owned owner w.number id) callers (log ++ tail) y.0 y.1) (λ i. (sym t.0 i, (sym is ∙ t.1) i)) here
    near j u far (inr t) = else j u t.0 far t.1

    pick : (j : ℕ) (u : View) → ((j ≡ other) × (nobody ≡ u)) ⊎ ((j ≢ other) × (get_elem? (set views id both) j ≡ some u)) → Fits seat (owned owner w.number id) callers (log ++ tail) j u
    pick j u (inl t) = nobody_fits seat (owned owner w.number id) callers (log ++ tail) j u t.1
    pick j u (inr t) = near j u t.0 (at_set views id j both u t.1)

    each : (j : ℕ) (u : View) → get_elem? (set (set views id both) other nobody) j ≡ some u → Fits seat (owned owner w.number id) callers (log ++ tail) j u
    each j u e = pick j u (at_set (set views id both) other j nobody u e)

-- A seat of a caller is split off the book's.
pub splits : (views : List View) (id : ℕ) (v left right : View) (n more : ℕ) (mine : List Entry) → v.knows ≡ true → left ≡ keeper v.all more → right ≡ caller_view n mine
    → v.callers ≡ more ⊎ v.callers + 1 ≡ more → n < more
    → ((seat : ℕ) (owner : ℕ → ℕ) (callers : ℕ) (log : List Entry) → v.all ≡ log → v.callers ≡ callers → Fits seat owner callers log id v → mine ≡ entries_by n log)
    → ((seat : ℕ) (owner : ℕ → ℕ) (callers : ℕ) (log : List Entry) → v.callers ≡ callers → Fits seat owner callers log id v → (j : ℕ) (u : View) → j ≢ id → Fits seat owner callers log j u → u.calls ≡ true → u.number ≢ n)
    → AreExact views → get_elem? views id ≡ some v → AreExact (set views id left ++ right ∷ [])
splits views id v left right n more mine knows is_left is_right grows below exact alone (seat, owner, callers, log, all) at = (seat, owned owner n last, more, log, each)
  where
    last : ℕ
    last = length (set views id left)

    book : (id ≡ seat) × (v.all ≡ log) × (v.callers ≡ callers)
    book = (all id v at).0 knows

    grown : callers ≡ more ⊎ callers + 1 ≡ more
    grown = ⊎_elim (λ e. inl (sym book.2 ∙ e)) (λ e. inr (ap (λ k. k + 1) (sym book.2) ∙ e)) grows

    here : Fits seat (owned owner n last) more log id (keeper v.all more)
    here = ((λ _. (book.0, book.1, refl)), (λ c. absurd (off c)))

    there : Fits seat (owned owner n last) more log last (caller_view n mine)
    there = ((λ k. absurd (off k)), (λ _. (sym (owned_here owner n last), below, exact seat owner callers log book.1 book.2 (all id v at))))

    else : (j : ℕ) (u : View) → j ≢ id → get_elem? views j ≡ some u → Fits seat (owned owner n last) more log j u
    else j u ne e = let h = all j u e in
        fits_on seat owner callers log log n last more j u h (λ k. ne ((h.0 k).0 ∙ sym book.0)) (alone seat owner callers log book.2 (all id v at) j u ne h) grown (λ m _. refl)

    near : (j : ℕ) (u : View) → ((j ≡ id) × (left ≡ u)) ⊎ ((j ≢ id) × (get_elem? views j ≡ some u)) → Fits seat (owned owner n last) more log j u
    near j u (inl t) = subst (λ (y : ℕ × View). Fits seat (owned owner n last) more log y.0 y.1) (λ i. (sym t.0 i, (sym is_left ∙ t.1) i)) here
    near j u (inr t) = else j u t.0 t.1

    pick : (j : ℕ) (u : View) → (get_elem? (set views id left) j ≡ some u) ⊎ ((j ≡ last) × (right ≡ u)) → Fits seat (owned owner n last) more log j u
    pick j u (inl e) = near j u (at_set views id j left u e)
    pick j u (inr t) = subst (λ (y : ℕ × View). Fits seat (owned owner n last) more log y.0 y.1) (λ i. (sym t.0 i, (sym is_right ∙ t.1) i)) there

    each : (j : ℕ) (u : View) → get_elem? (set views id left ++ right ∷ []) j ≡ some u → Fits seat (owned owner n last) more log j u
    each j u e = pick j u (at_end (set views id left) right u j e)

-- A step after which the seat knows what it knew.
pub stays : (views : List View) (id : ℕ) (v : View) → AreExact views → get_elem? views id ≡ some v → AreExact (set views id v)
stays views id v (seat, owner, callers, log, all) at = (seat, owner, callers, log, λ j u e. pick j u (at_set views id j v u e))
  where
    pick : (j : ℕ) (u : View) → ((j ≡ id) × (v ≡ u)) ⊎ ((j ≢ id) × (get_elem? views j ≡ some u)) → Fits seat owner callers log j u
    pick j u (inl t) = subst (λ (y : ℕ × View). Fits seat owner callers log y.0 y.1) (λ i. (sym t.0 i, t.1 i)) (all id v at)
    pick j u (inr t) = all j u t.1
