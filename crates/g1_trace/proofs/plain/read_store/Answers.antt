use Rattle.std.specs.Prelude.{◌≡◌, ◌≤◌, ◌+◌}
use Rattle.g1_trace.specs.{length, codes, true, arith, refl, rules, sym, ◌∙◌, bytes_eq}
use Rattle.g1_trace.proofs.{ok_of, store_line}
use Rattle.g1_trace.proofs.plain.read_store.Goals as goal

pub returns-clause-line : goal.returns-clause-line
returns-clause-line c =
    let bytes = c.args.bytes.now in
    let rest = c.in_ok-reference.rest.now in
    let named : bytes_eq c.split_at.result.0.now (codes "store ") ≡ true = search rules in
    let few : length bytes ≤ length rest + 64 = omega (arith, c.in_ok-by.ensures.few, c.in_ok-place.ensures.few, c.in_ok-reference.ensures.few) in
    store_line c.args.layout c.args.dialect bytes c.split_at.result.0.now c.split_at.result.1.now c.in_ok-by.rest.now c.in_ok-place.rest.now rest _ _ _ _ _ _ _ c.split_at.ensures.by_index.0 named
    c.in_ok-by.ensures.number c.in_ok-place.ensures.number c.in_ok-reference.ensures.target
    (sym c.mutator.ensures.read ∙ ok_of _ _ c.in_ok-mutator.ensures.value) (sym c.slot.ensures.read ∙ ok_of _ _ c.in_ok-slot.ensures.value) (sym c.target.ensures.read ∙ ok_of _ _ c.in_ok-target.ensures.value)
    few refl
