-- The first byte of a dirty card is that of the first dirty card.
use Rattle.std.specs.Prelude.{◌≡◌, ◌<◌, ◌≤◌, ◌+◌, ◌-◌}
use Rattle.g1_heap.specs.{inl, inr, ℕ, zero, suc, List, length, get_or, take, drop, map, Option, Some, None, refl, sym, ap, ◌∙◌, subst, arith, MatchOption, SomeIff, cases_lt, eqb-true, eq-eqb, length-map, get_or-take, get_or-drop, get_or_past, length-take, length-drop, Nowhere, NoneBefore, Passes, is_byte, Mark, Clean, Dirty, HasNoDirty, IsFirstDirty, mark_of}
use Rattle.std.proofs.Math.ListN.{get_or-map}

byte_of-dirty : (byte : ℕ) → mark_of byte ≡ Dirty → byte ≡ 1
byte_of-dirty zero is = cc
byte_of-dirty (suc zero) is = refl
byte_of-dirty (suc (suc n)) is = cc

-- the bytes from a card on
module _ (bytes : List ℕ) (from : ℕ) where
  abbrev bytes_from : List ℕ
  bytes_from = take (length bytes - from) (drop from bytes)

  length_from : length bytes_from ≡ length bytes - from
  length_from = omega (arith, length-take (length bytes - from) (drop from bytes), length-drop from bytes)

  byte_from : (k : ℕ) → from + k < length bytes → get_or bytes_from k 0 ≡ get_or bytes (from + k) 0
  byte_from k below = get_or-take (length bytes - from) (drop from bytes) k 0 (omega arith) ∙ get_or-drop from bytes k 0

  mark_at : (card : ℕ) → get_or (map mark_of bytes) card Clean ≡ mark_of (get_or bytes card 0)
  mark_at card = get_or-map mark_of bytes card 0

  byte_at : (card : ℕ) → get_or (map mark_of bytes) card Clean ≡ Dirty → get_or bytes card 0 ≡ 1
  byte_at card is = byte_of-dirty (get_or bytes card 0) (sym (mark_at card) ∙ is)

  dirty_below : (card : ℕ) → get_or bytes card 0 ≡ 1 → card < length bytes
  dirty_below card is = elim (cases_lt card (length bytes)) [
    | inl below ↦ below
    | inr above ↦ let past : get_or bytes card 0 ≡ 0 = get_or_past bytes card 0 above in absurd (omega arith)
  ]

  -- a dirty card at or after the first is a byte that passes the test
  passes : (card : ℕ) → from ≤ card → get_or (map mark_of bytes) card Clean ≡ Dirty → (card - from < length bytes_from) × Passes (is_byte 1) bytes_from (card - from)
  passes card low is =
      let byte : get_or bytes card 0 ≡ 1 = byte_at card is in
      let below : card < length bytes = dirty_below card byte in
      let at : from + (card - from) ≡ card = omega arith in
      (omega (arith, length_from), eq-eqb _ 1 (byte_from (card - from) (omega arith) ∙ ap (λ k. get_or bytes k 0) at ∙ byte))

  no_dirty : Nowhere (Passes (is_byte 1) bytes_from) 0 (length bytes_from) → HasNoDirty (map mark_of bytes) from
  no_dirty none card low is = let p = passes card low is in none (card - from) (omega arith) p.0 p.1

  first_dirty : (k : ℕ) → NoneBefore (Passes (is_byte 1) bytes_from) 0 (length bytes_from) k × Passes (is_byte 1) bytes_from k → IsFirstDirty (map mark_of bytes) from (from + k)
  first_dirty k h =
      let below : from + k < length bytes = omega (arith, h.0.high, length_from) in
      record {
        within = omega (arith, length-map bytes mark_of);
        not_before = omega arith;
        dirty = mark_at (from + k) ∙ ap mark_of (sym (byte_from k below) ∙ eqb-true _ 1 h.1);
        first = λ earlier low before is. let p = passes earlier low is in h.0.before (earlier - from) (omega arith) (omega arith) p.1;
      }

pub none_next : (marks : List Mark) (bytes : List ℕ) (from : ℕ) (card : Option ℕ) → card ≡ None → map mark_of bytes ≡ marks
    → Nowhere (Passes (is_byte 1) (take (length bytes - from) (drop from bytes))) 0 (length (take (length bytes - from) (drop from bytes)))
    → MatchOption card (HasNoDirty marks from) (λ card. IsFirstDirty marks from card)
none_next marks bytes from card is e none =
    subst (λ (o : Option ℕ). MatchOption o (HasNoDirty marks from) (λ card. IsFirstDirty marks from card)) (sym is) (subst (λ (ms : List Mark). HasNoDirty ms from) e (no_dirty bytes from none))

pub some_next : (marks : List Mark) (bytes : List ℕ) (from k count : ℕ) (card : Option ℕ) → SomeIff card (from + k < count) (from + k) → length bytes ≡ count → map mark_of bytes ≡ marks
    → NoneBefore (Passes (is_byte 1) (take (length bytes - from) (drop from bytes))) 0 (length (take (length bytes - from) (drop from bytes))) k × Passes (is_byte 1) (take (length bytes - from) (drop from bytes)) k
    → MatchOption card (HasNoDirty marks from) (λ card. IsFirstDirty marks from card)
some_next marks bytes from k count None is many e h = absurd (is (omega (arith, h.0.high, length_from bytes from)))
some_next marks bytes from k count (Some card) is many e h =
    subst (λ (at : ℕ). IsFirstDirty marks from at) (sym is.1) (subst (λ (ms : List Mark). IsFirstDirty ms from (from + k)) e (first_dirty bytes from k h))
