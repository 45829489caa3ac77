use Rattle.std.specs.Prelude.{◌≡◌, ◌++◌}
use Rattle.g1_trace.specs.{ℕ, List, length, Appends, list_text}
use Rattle.g1_trace.proofs.list.put_list.Given as goal

-- the text of the cards so far, and what is left
abbrev pub invariant-loop-rest : goal.invariant-loop-rest
invariant-loop-rest g l = (done : List ℕ) × Appends (g.W.Write.contents l.fn.output) (g.W.Write.contents l.output) (list_text done) × (l.cards ≡ done ++ l.rest)

abbrev pub decreases-loop-rest : goal.decreases-loop-rest
decreases-loop-rest g l = length l.rest
