use Rattle.std.specs.Prelude.{◌≡◌, ◌+◌, ◌≤◌, ◌++◌}
use Rattle.g1_steps.specs.{map, vec_len, vec_capacity, into_iter_items, into_iter_len, AreNewSenders, AreNewMutators}
use Rattle.g1_steps.proofs.opening.mutators_of.Given as goal

abbrev pub invariant-loop-sender : goal.invariant-loop-sender
invariant-loop-sender l =
    (vec_len l.mutators + into_iter_len l.sender-iterator ≡ vec_len l.fn.senders)
    × (vec_len l.fn.senders ≤ vec_capacity l.mutators)
    × AreNewMutators l.line l.config.log 0 l.mutators.items
    × AreNewSenders l.line (vec_len l.mutators) (into_iter_items l.sender-iterator)
    × (map (λ m. m.sender) l.mutators.items ++ into_iter_items l.sender-iterator ≡ l.fn.senders.items)
