use Rattle.std.specs.Prelude.{◌≡◌, ◌<◌}
use Rattle.g1_shared.specs.{Some, rules, arith, length, vec_len, into_iter_len, into_iter_items, whole, IsNewTaker, IsNewCaller}
use Rattle.std.proofs.lemmas.List.Elements.{All-pop}
use Rattle.g1_shared.proofs.EachLemmas.{each_more, begins, next_new, rights_kept, rights_end}
use Rattle.g1_shared.proofs.shared.opening.callers_of.Goals as goal

pub loop-number-preserved : goal.loop-number-preserved
loop-number-preserved g c =
    let was = c.loop-number.invariant in
    let len : length c.loop-number.all.items ≡ c.loop-number.number = search rules in
    let takers = All-pop (IsNewTaker c.args.line.now) _ _ (Some c.take_last-taker.result) c.take_last-taker.ensures.items was.7 in
    let next = next_new _ _ c.loop-number.number _ _ _ _ _ c.next-mutator.ensures.cases (search rules) was.9 in
    let some = λ (below : c.loop-number.number < g.M.Terms.terms.mutators). c.next-mutator.ensures.variant.1 (omega (arith, below)) in
    let new = begins c.args.line.now c.args.config.now.log g.M.Terms.terms.mutators c.loop-number.number _ _ _ c.new-counts.ensures some next.0 takers.1 in (
      omega arith,
      search rules,
      omega arith,
      search rules,
      search rules,
      search rules,
      omega arith,
      takers.0,
      omega (arith, next.2),
      next.1,
      rights_kept _ _ _ _ _ _ _ _ c.push_reserved.ensures.items c.next-mutator.ensures.items c.take_last-taker.ensures.items was.10,
      each_more (IsNewCaller c.args.line.now c.args.config.now.log g.M.Terms.terms.mutators) _ _ _ c.loop-number.number c.push_reserved.ensures.items len was.11 new,
      search rules,
    )

pub returns-clause-all : goal.returns-clause-all
returns-clause-all g c =
    let was = c.loop-number.invariant in
    let taken : vec_len c.loop-number.takers ≡ 0 = omega (arith, was.6, c.loop-number-test.false) in
    let given : into_iter_len c.loop-number.mutators ≡ 0 = omega (arith, was.8, c.requires.few, c.loop-number-test.false) in
    rights_end c.loop-number.all.items (into_iter_items c.loop-number.mutators) c.loop-number.takers.items whole (search (rules, taken)) (search (rules, given)) was.10
