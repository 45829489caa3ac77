use Rattle.std.specs.Prelude.{◌≡◌, ◌+◌, ◌-◌, ◌<◌, ◌≤◌}
use Rattle.g1_shared.specs.{ℕ, recorded, [], vec_len, vec_capacity, get_or, sum_by, All, sender_rights, taker_rights, caller_rights, whole, into_iter_items, into_iter_len, IsNewTaker, AreNewMutators, CallerState, IsNewCaller}
use Rattle.g1_shared.proofs.shared.opening.callers_of.Given as goal

abbrev pub invariant-loop-number : goal.invariant-loop-number
invariant-loop-number g l =
    (l.made.parts + l.number ≡ l.count) × (l.made.amount ≡ 0)
    × (l.stored.parts + l.number ≡ l.count) × (l.stored.amount ≡ 0)
    × (vec_len l.all ≡ l.number) × (l.count ≤ vec_capacity l.all)
    × (vec_len l.takers + l.number ≡ l.count) × All (IsNewTaker l.line) l.takers.items
    × (into_iter_len l.mutators ≡ g.M.Terms.terms.mutators - l.number) × AreNewMutators l.line l.config.log l.number (into_iter_items l.mutators)
    × (sum_by caller_rights l.all.items + (sum_by (λ m. sender_rights m.sender) (into_iter_items l.mutators) + sum_by taker_rights l.takers.items) ≡ whole)
    × ((k : ℕ) (d : CallerState) → k < l.number → IsNewCaller l.line l.config.log g.M.Terms.terms.mutators k (get_or l.all.items k d))
    × (l.records ≡ recorded g.M.Terms.terms.records [] l.number)
