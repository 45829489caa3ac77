-- What is so of each party in the list is so of their counts.
use Rattle.std.specs.Prelude.{◌≡◌, ◌<◌, ◌∷◌}
use Rattle.g1_handles.specs.{ℕ, List, [], Box, Global, arith, map, length, length-map, slice_index_or, get_or-map, get_or_default, subst, ◌∙◌, Party, PartyCounts, no_counts, AreNew}
use Rattle.g1_handles.proofs.heap.open.waiting.Goals as goal

-- parties that have counted nothing, as their counts in a row
new_of_boxes : {B : Type 0} (counts : B → PartyCounts) (xs : List B) → ((i : ℕ) (d : B) → i < length xs → counts (slice_index_or xs i d) ≡ no_counts i)
    → AreNew (map counts xs)
new_of_boxes counts [] new i c below = absurd (omega arith)
new_of_boxes counts (x ∷ xs) new i c below =
    let within : i < length (x ∷ xs) = subst (λ n. i < n) (length-map (x ∷ xs) counts) below in
    get_or_default (map counts (x ∷ xs)) i c (counts x) below ∙ (get_or-map counts (x ∷ xs) i x ∙ new i x within)

pub returns-clause-counts : goal.returns-clause-counts
returns-clause-counts g c =
    new_of_boxes (λ (m : Box (Party g.row.P.Denot g.P.Role) Global). m.value.counts) c.loop-number.parties.items
    (λ i d below. c.loop-number.invariant.counts i d (omega (arith, below, c.loop-number.parties.ok.0)))
