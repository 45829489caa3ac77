-- The search of a check, slot by slot.
use Rattle.std.specs.Prelude.{◌≡◌, ◌+◌, ◌-◌, ◌<◌}
use Rattle.g1_core.specs.{◌∙◌, ℕ, List, length, map, get_or, Option, None, Some, ap, sym, subst, arith, get_or-map, target_of, IsLater, IsOnlyRead, IsFirst, Differs}
use Rattle.g1_core.specs.Machine.{Machine, Table}

module _ (Q : ℕ → Type 0) (first : ℕ) where
  pub first_none : (count : ℕ) → ((k : ℕ) → k < count → Q (first + k) → ⊥) → IsFirst Q first count None
  first_none count none = λ slot from to is. none (slot - first) (omega arith) (subst Q (let e : slot ≡ first + (slot - first) = omega arith in e) is)

  pub first_found : (count k found : ℕ) → found ≡ first + k → k < count → Q found → ((j : ℕ) → j < k → Q (first + j) → ⊥) → IsFirst Q first count (Some found)
  first_found count k found e lt is none = (omega (arith, e), omega (arith, e, lt), is, λ slot from to q. first_none k none slot from (omega (arith, e, to)) q)

-- a slot whose target is compared with what memory has
module _ {A : Type 0} (place : A → Option ℕ) (memory : List A) (t now : Table) (first i slot : ℕ) (x : A) (target : Option ℕ)
    (at : slot ≡ first + i) (lt : i < length memory) (read : x ≡ get_or memory i x) (same : now ≡ t) (is : target ≡ target_of now slot) where
  had : get_or (map place memory) (first + i - first) None ≡ place x
  had = ap (λ (j : ℕ). get_or (map place memory) j None) (let e : first + i - first ≡ i = omega arith in e) ∙ (get_or-map place memory i x None lt ∙ ap place (sym read))

  told : target_of t (first + i) ≡ target
  told = sym (is ∙ (λ j. target_of (same j) (at j)))

  pub slot_same : place x ≡ target → Differs t first (map place memory) (first + i) → ⊥
  slot_same e differs = differs (told ∙ (sym e ∙ sym had))

  pub slot_differs : (place x ≡ target → ⊥) → Differs t first (map place memory) slot
  slot_differs other = subst (Differs t first (map place memory)) (sym at) (λ e. other (sym had ∙ (sym e ∙ told)))

-- one more slot is read
pub read_more : (a b c : Machine) → IsOnlyRead a b → IsLater b c → c.state ≡ b.state → IsOnlyRead a c
read_more a b c read later state = record { state = state ∙ read.state; settings = later.settings ∙ read.settings; reads = omega (arith, read.reads, later.reads) }
