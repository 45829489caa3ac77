-- How long the lists of a reply can be.
use Rattle.std.specs.Prelude.{◌≡◌, ◌<◌, ◌≤◌, ◌+◌}
use Rattle.g1_history.specs.{inl, inr, ℕ, zero, suc, List, length, get_or, Option, Some, None, ap, subst, arith, All, card_count, State, Machine, drain_cards, DoesDrain, Drained, Cards, Short, cards_in, turned_few}
use Rattle.std.specs.List.Sorted.{IsStrictlyIncreasing}
use Rattle.std.proofs.lemmas.Bool.{cases_lt}
use Rattle.g1_core.specs.declared.reply.RefineReply.{RefineReply}
use Rattle.g1_core.specs.Refinement.{IsRefined}

-- an ascending list of numbers below a bound is no longer than the bound
at_least : (xs : List ℕ) → IsStrictlyIncreasing xs → (k : ℕ) → k < length xs → k ≤ get_or xs k 0
at_least xs up zero lt = omega arith
at_least xs up (suc k) lt =
    let before = at_least xs up k (omega arith) in
    let step : get_or xs k 0 < get_or xs (k + 1) 0 = up k (omega arith) in
    let next : k + 1 ≡ suc k = omega arith in
    subst (λ (j : ℕ). suc k ≤ get_or xs j 0) next (omega arith)

increasing_few : (xs : List ℕ) (n : ℕ) → IsStrictlyIncreasing xs → All (λ x. x < n) xs → length xs ≤ n
increasing_few xs n up all = elim (cases_lt n (length xs)) [
  | inl over ↦ absurd (omega (arith, at_least xs up n over, all n 0 over))
  | inr fits ↦ fits
]

-- a drain answers no more cards than there are
pub drain_few : (region : ℕ) (answer : Drained) (old new : Machine) → DoesDrain region answer old new → length (drain_cards answer) ≤ card_count old.state.table.layout
drain_few region (Cards cards refined) old new h = increasing_few cards (card_count old.state.table.layout) h.drained.1.ascending h.within
drain_few region (Short refined) old new h = omega arith

-- a refinement refines and skips no more cards than the buffer has, if there is one
pub refinement_few : (old : State) (buffer : Option (List ℕ)) (reply : RefineReply) (new : State) → IsRefined old buffer reply new → length reply.refined + reply.skipped ≤ cards_in buffer
refinement_few old None reply new h = let none : length reply.refined ≡ 0 = ap length h.0.refined in omega (arith, h.0.skipped)
refinement_few old (Some cards) reply new h = turned_few old cards reply new h
