-- A set of regions after one of its words is written.
use Rattle.std.proofs.Common.{◌≡◌, ◌≢◌, inl, inr, ℕ, ◌<◌, ◌/◌, ◌%◌, length, get_or, sym, ap, ◌∙◌, arith, set as list_set}
use Rattle.std.specs.Int.{bit_at}
use Rattle.std.proofs.lemmas.Bool.{cases_eq}
use Rattle.std.proofs.lemmas.List.{get_or-set_same, get_or-set_other}
use Rattle.g1_layout.specs.declared.region_set.RegionSet.{RegionSet}
use Rattle.g1_layout.specs.Regions.{Gains, Loses}

-- the word of a region is written, and no other bit of it changes
module _ (old : RegionSet) (word region : ℕ) (four : length old.words ≡ 4) (below : region < 256) (kept : (i : ℕ) → i < 64 → i ≢ region % 64 → bit_at word i ≡ bit_at (get_or old.words (region / 64) 0) i) where
  abbrev written : RegionSet
  written = record { words = list_set old.words (region / 64) word }

  same_word : (r : ℕ) → r / 64 ≡ region / 64 → get_or written.words (r / 64) 0 ≡ word
  same_word r e = ap (λ k. get_or written.words k 0) e ∙ get_or-set_same old.words (region / 64) word 0 (omega (arith, four))

  here : (r : ℕ) → r ≡ region → bit_at (get_or written.words (r / 64) 0) (r % 64) ≡ bit_at word (region % 64)
  here r e = ap (λ w. bit_at w (r % 64)) (same_word r (ap (λ n. n / 64) e)) ∙ ap (λ n. bit_at word (n % 64)) e

  elsewhere : (r : ℕ) → r ≢ region → bit_at (get_or written.words (r / 64) 0) (r % 64) ≡ bit_at (get_or old.words (r / 64) 0) (r % 64)
  elsewhere r ne = elim (cases_eq (r / 64) (region / 64)) [
    | inl e ↦
        let apart : r % 64 ≢ region % 64 = λ q. ne (omega (arith, e, q)) in
        ap (λ w. bit_at w (r % 64)) (same_word r e) ∙ kept (r % 64) (omega arith) apart ∙ ap (λ k. bit_at (get_or old.words k 0) (r % 64)) (sym e)
    | inr apart ↦ ap (λ w. bit_at w (r % 64)) (get_or-set_other old.words (region / 64) (r / 64) word 0 apart)
  ]

  pub gained : bit_at word (region % 64) ≡ 1 → Gains old region written
  gained on r = elim (cases_eq r region) [
    | inl e ↦ (λ _. inr e, λ _. here r e ∙ on)
    | inr ne ↦ (λ h. inl (sym (elsewhere r ne) ∙ h), λ h. elim h [ inl was ↦ elsewhere r ne ∙ was | inr e ↦ absurd (ne e) ])
  ]

  pub lost : bit_at word (region % 64) ≡ 0 → Loses old region written
  lost off r = elim (cases_eq r region) [
    | inl e ↦ (λ h. let zero : bit_at (get_or written.words (r / 64) 0) (r % 64) ≡ 0 = here r e ∙ off in absurd (omega (arith, h, zero)), λ h. absurd (h.1 e))
    | inr ne ↦ (λ h. (sym (elsewhere r ne) ∙ h, ne), λ h. elsewhere r ne ∙ h.0)
  ]
