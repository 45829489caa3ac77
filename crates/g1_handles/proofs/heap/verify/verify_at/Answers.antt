-- What the pause finds is told by words, and the first search changes nothing.
use Rattle.g1_handles.specs.{rules, ℕ, Option, length, map, subst, sym, IsFirst, IsMissing, Differs, Pause, table_at, reference_of}
use Rattle.g1_handles.proofs.heap.verify.verify_at.Goals as goal

pub returns : goal.returns
returns c =
    let t = table_at c.args.heap.now in
    let memory = c.args.memory.now in
    let from = c.in-Some.ensures.1 in (
      record {
        within = search rules;
        reaches = search rules;
        differs = subst (λ (x : ℕ × Option ℕ). IsFirst (Differs t x.0 (map reference_of memory)) x.0 (length memory) x.1) (λ i. (from i, sym c.reference_word-differing.ensures i)) c.first_differing.ensures.first;
        misses = subst (λ (x : Pause × (ℕ × Option ℕ)). IsFirst (IsMissing (table_at x.0)) x.1.0 c.args.count x.1.1) (λ i. (c.first_differing.ensures.same i, (from i, sym c.reference_word-missing.ensures i))) c.first_missing.ensures.first;
      },
      tt,
      search rules,
    )
