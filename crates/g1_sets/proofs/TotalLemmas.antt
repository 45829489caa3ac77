-- How many pairs the lists make up.
use Rattle.std.specs.Prelude.{◌≡◌, ◌+◌, ◌∷◌, ◌++◌}
use Rattle.g1_sets.specs.{inl, inr, ℕ, suc, false, cond, List, [], length, get_or, map, refl, sym, ap, ◌∙◌, arith, Contains, nat_eq, sum_by, nat_eq_equiv, IsDistinct, cases_Bool, true≢false, Contains-append_cases, sum_by-cons, apart_from_distinct, IsDistinct-tail, pair_cmp, PairSet, list_at, pairs_from, pairs_of}
use Rattle.std.specs.FinSet as set
use Rattle.g1_sets.proofs.PairLemmas.{pair_total, in_pairs, row_from, from_pairs}

-- the head of a list without repeats is not in its tail
head_once : (c : ℕ) (cs : List ℕ) → IsDistinct nat_eq (c ∷ cs) → Contains cs c → ⊥
head_once c cs distinct (k, lt, e) =
    let apart : nat_eq c (get_or cs k c) ≡ false = apart_from_distinct nat_eq (c ∷ cs) 0 (suc k) c distinct (omega arith) (omega (arith, lt)) in
    true≢false (sym (nat_eq_equiv.refl c) ∙ ap (nat_eq c) (sym e) ∙ apart)

-- one pair more
one_more : (ps : List (ℕ × ℕ)) (p : ℕ × ℕ) → (Contains ps p → ⊥) → set.len (set.from_list {R = pair_cmp} (p ∷ ps)) ≡ set.len (set.from_list {R = pair_cmp} ps) + 1
one_more ps p never =
    let old : PairSet = set.from_list ps in
    let lacks : set.contains old p ≡ false = elim (cases_Bool (set.contains old p)) [
      | inl there ↦ absurd (never (in_pairs ps p there))
      | inr lacks ↦ lacks
    ] in
    set.len-insert pair_total old p ∙ ap (λ b. cond b (set.len old) (set.len old + 1)) lacks

-- a region's pairs, before pairs of other regions
row_len : (cards : List ℕ) (region : ℕ) (ps : List (ℕ × ℕ)) → IsDistinct nat_eq cards → ((p : ℕ × ℕ) → Contains ps p → p.1 ≡ region → ⊥)
    → set.len (set.from_list {R = pair_cmp} (map (λ (c : ℕ). (c, region)) cards ++ ps)) ≡ length cards + set.len (set.from_list {R = pair_cmp} ps)
row_len [] region ps distinct others = omega arith
row_len (c ∷ cs) region ps distinct others =
    let rest : set.len (set.from_list {R = pair_cmp} (map (λ (c : ℕ). (c, region)) cs ++ ps)) ≡ length cs + set.len (set.from_list {R = pair_cmp} ps) = row_len cs region ps (IsDistinct-tail nat_eq c cs distinct) others in
    let more = one_more (map (λ (c : ℕ). (c, region)) cs ++ ps) (c, region) (λ h. elim (Contains-append_cases (map (λ (c : ℕ). (c, region)) cs) ps (c, region) h) [
      | inl row ↦ head_once c cs distinct (row_from cs region (c, region) row).0
      | inr other ↦ others (c, region) other refl
    ]) in
    omega (arith, more, rest)

total_from : (first : ℕ) (lists : List (List ℕ)) → ((k : ℕ) → IsDistinct nat_eq (list_at lists k)) → set.len (set.from_list {R = pair_cmp} (pairs_from first lists)) ≡ sum_by length lists
total_from first [] distinct = set.len-empty pair_cmp
total_from first (cards ∷ lists) distinct =
    let row = row_len cards first (pairs_from (first + 1) lists) (distinct 0) (λ p h is.
    let r : (k : ℕ) × (p.1 ≡ first + 1 + k) × Contains (list_at lists k) p.0 = from_pairs (first + 1) lists p h in
    omega (arith, r.1, is)) in
    let rest : set.len (set.from_list {R = pair_cmp} (pairs_from (first + 1) lists)) ≡ sum_by length lists = total_from (first + 1) lists (λ k. distinct (suc k)) in
    let sum : sum_by length (cards ∷ lists) ≡ length cards + sum_by length lists = sum_by-cons length cards lists in
    omega (arith, row, rest, sum)

-- as many pairs as the lists have cards
pub total_is : (lists : List (List ℕ)) → ((k : ℕ) → IsDistinct nat_eq (list_at lists k)) → sum_by length lists ≡ set.len (pairs_of lists)
total_is lists distinct = sym (total_from 0 lists distinct)
