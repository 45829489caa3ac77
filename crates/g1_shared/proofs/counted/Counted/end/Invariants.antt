use Rattle.std.specs.Prelude.{◌≡◌, ◌+◌}
use Rattle.g1_shared.specs.{vec_len, sum_by, All, made_by, stored_by, HasOwn}
use Rattle.g1_shared.proofs.counted.Counted.end.Given as goal

-- the shares so far are those of the callers that were handed in, and if what the others made is
-- what the records have of them, so it is of all
abbrev pub invariant-loop-caller : goal.invariant-loop-caller
invariant-loop-caller g l =
    (l.made.parts + vec_len l.callers ≡ g.M.Ledger.parts)
    × (l.stored.parts + vec_len l.callers ≡ g.S.Ledger.parts)
    × (l.made.amount + sum_by (λ c. made_by c.counts) l.callers.items ≡ sum_by (λ c. made_by c.counts) l.fn.callers.items)
    × (l.stored.amount + sum_by (λ c. stored_by c.counts) l.callers.items ≡ sum_by (λ c. stored_by c.counts) l.fn.callers.items)
    × (l.records ≡ l.initial.records)
    × (All (HasOwn l.records.entries) l.callers.items → All (HasOwn l.records.entries) l.fn.callers.items)

abbrev pub decreases-loop-caller : goal.decreases-loop-caller
decreases-loop-caller g l = goal.left-loop-caller g l
