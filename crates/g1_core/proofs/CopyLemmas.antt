-- A range of slots that is copied, slot by slot.
use Rattle.std.specs.Prelude.{◌≡◌, ◌≢◌, ◌⊎◌, ◌+◌, ◌-◌, ◌<◌, ◌≤◌}
use Rattle.g1_core.specs.{◌∙◌, ℕ, zero, suc, Bool, cond, true, false, Option, None, refl, sym, ap, subst, inl, inr, arith, get_or-set_other, target_of, stored, copied, IsLater, nat_cmp_total, exact_unsigned, set_comm}
use Rattle.g1_core.specs.Machine.{Machine, Table}
use Rattle.std.specs.FinSet as set
use Rattle.g1_core.proofs.TableLemmas.{stored_pending}

-- two stores into different slots may change places
stores_apart : (t : Table) (a b : ℕ) (x y : Option ℕ) → a ≢ b → stored (stored t a x) b y ≡ stored (stored t b y) a x
stores_apart t a b x y ne =
    let pending : (stored (stored t a x) b y).pending ≡ (stored (stored t b y) a x).pending = set.same_set nat_cmp_total exact_unsigned _ _ (λ c. rw (stored_pending (stored t a x) b y c, stored_pending t a x c, stored_pending (stored t b y) a x c, stored_pending t b y c) (grind arith)) in
    λ i. record { layout = t.layout; refs = set_comm t.refs a b x y ne i; pending = pending i; recorded = t.recorded }

-- the first slot may be copied last
copied_first : (from to count : ℕ) (t : Table) → copied from to (suc count) t ≡ stored (copied (suc from) (suc to) count t) to (target_of t from)
copied_first from to zero t = λ i. stored t ((let e : to + 0 ≡ to = omega arith in e) i) (target_of t ((let e : from + 0 ≡ from = omega arith in e) i))
copied_first from to (suc count) t =
    let rest : Table = copied (suc from) (suc to) count t in
    let last : to + suc count ≡ suc to + count = omega arith in
    let source : from + suc count ≡ suc from + count = omega arith in
    ap (λ (u : Table). stored u (to + suc count) (target_of t (from + suc count))) (copied_first from to count t)
    ∙ (stores_apart rest to (to + suc count) (target_of t from) (target_of t (from + suc count)) (λ e. absurd (omega (arith, e)))
    ∙ (λ i. stored (stored rest (last i) (target_of t (source i))) to (target_of t from)))

-- the other slots keep their targets
copied_other : (from to count : ℕ) (t : Table) (p : ℕ) → (p < to) ⊎ (to + count ≤ p) → target_of (copied from to count t) p ≡ target_of t p
copied_other from to zero t p out = refl
copied_other from to (suc count) t p out =
    get_or-set_other (copied from to count t).refs (to + count) p (target_of t (from + count)) None (λ e. absurd (omega (arith, e, out)))
    ∙ copied_other from to count t p (elim out [ inl low ↦ inl low | inr high ↦ inr (omega (arith, high)) ])

-- one more slot, behind those that are copied and before them
pub table_up : (old mid new : Table) (from to count : ℕ) → to ≤ from → mid ≡ copied from to count old → new ≡ stored mid (to + count) (target_of mid (from + count)) → new ≡ copied from to (suc count) old
table_up old mid new from to count le so one =
    one ∙ (ap (λ (u : Table). stored u (to + count) (target_of u (from + count))) so
    ∙ ap (λ (o : Option ℕ). stored (copied from to count old) (to + count) o) (copied_other from to count old (from + count) (inr (omega (arith, le)))))

pub table_down : (old mid new : Table) (from to count : ℕ) → from < to → mid ≡ copied (suc from) (suc to) count old → new ≡ stored mid to (target_of mid from) → new ≡ copied from to (suc count) old
table_down old mid new from to count less so one =
    one ∙ (ap (λ (u : Table). stored u to (target_of u from)) so
    ∙ (ap (λ (o : Option ℕ). stored (copied (suc from) (suc to) count old) to o) (copied_other (suc from) (suc to) count old from (inl (omega (arith, less)))) ∙ sym (copied_first from to count old)))

-- how far behind the first slot the copied ones begin: from the first one on, or up to the last one
abbrev pub first_of : Bool → ℕ → ℕ → ℕ
first_of upwards count done = cond upwards 0 (count - done)

-- the same places, by other terms
at_places : (Is : ℕ → ℕ → ℕ → Type 0) (from to count : ℕ) (place : ℕ × ℕ) (all : ℕ) → from ≡ place.0 → to ≡ place.1 → count ≡ all → Is from to count → Is place.0 place.1 all
at_places Is from to count place all e f h = subst (λ (x : ℕ × (ℕ × ℕ)). Is x.0 x.1.0 x.1.1) (λ i. (e i, (f i, h i)))

-- as many slots from one on are copied to those from another on, in this order, before and after
-- one more of them
module _ (Before After : ℕ → ℕ → ℕ → Type 0) (One : ℕ → ℕ → Type 0) (slots : ℕ)
    (up : (from to count : ℕ) → to ≤ from → from + count < slots → Before from to count → One (from + count) (to + count) → After from to (suc count))
    (down : (from to count : ℕ) → from < to → from < slots → Before (suc from) (suc to) count → One from to → After from to (suc count)) where
  pub copied_on : (upwards : Bool) (from to count i next : ℕ) → (upwards ≡ true → to ≤ from) → (upwards ≡ false → from < to) → i < count → from + count ≤ slots
      → Before (from + first_of upwards count i) (to + first_of upwards count i) i → (upwards ≡ true → next ≡ i) → (upwards ≡ false → next ≡ count - 1 - i) → One (from + next) (to + next)
      → After (from + first_of upwards count (i + 1)) (to + first_of upwards count (i + 1)) (i + 1)
  copied_on true from to count i next rises falls lt all so here there one =
      let e : next ≡ i = here refl in
      let le : to ≤ from = rises refl in
      at_places After from to (suc i) (from + 0, to + 0) (i + 1) (omega arith) (omega arith) (omega arith)
      (up from to i le (omega (arith, lt, all))
      (at_places Before (from + 0) (to + 0) i (from, to) i (omega arith) (omega arith) refl so)
      (subst (λ (n : ℕ). One (from + n) (to + n)) e one))
  copied_on false from to count i next rises falls lt all so here there one =
      let e : next ≡ count - 1 - i = there refl in
      let less : from < to = falls refl in
      at_places After (from + next) (to + next) (suc i) (from + (count - (i + 1)), to + (count - (i + 1))) (i + 1) (omega (arith, e, lt)) (omega (arith, e, lt)) (omega arith)
      (down (from + next) (to + next) i (omega (arith, less)) (omega (arith, e, lt, all))
      (at_places Before (from + (count - i)) (to + (count - i)) i (suc (from + next), suc (to + next)) i (omega (arith, e, lt)) (omega (arith, e, lt)) refl so)
      one)

-- all are copied
pub copied_all : (Is : ℕ → ℕ → ℕ → Type 0) (upwards : Bool) (from to count i : ℕ) → i ≡ count → Is (from + first_of upwards count i) (to + first_of upwards count i) i → Is from to count
copied_all Is true from to count i e = at_places Is (from + 0) (to + 0) i (from, to) count (omega arith) (omega arith) e
copied_all Is false from to count i e = at_places Is (from + (count - i)) (to + (count - i)) i (from, to) count (omega (arith, e)) (omega (arith, e)) e

-- of machines
pub later_then : (a b c : Machine) → IsLater a b → IsLater b c → IsLater a c
later_then a b c first second = record { layout = second.layout ∙ first.layout; settings = second.settings ∙ first.settings; sound = second.sound; reads = omega (arith, first.reads, second.reads) }
