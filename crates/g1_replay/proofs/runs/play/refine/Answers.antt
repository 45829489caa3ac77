use Rattle.g1_replay.specs.{refl, rules, subst, CallsBy}
use Rattle.g1_shared.proofs.CountLemmas.{refine_as}
use Rattle.g1_replay.proofs.PlayedLemmas.{first_stepped}
use Rattle.g1_replay.proofs.runs.play.refine.Goals as goal

pub returns : goal.returns
returns g c =
    let step = refine_as _ (CallsBy 0) _ _ _ c.new-calls.result.book.now c.refine.new.calls.book.now _ _ _ (λ calls did. subst (λ n. CallsBy n c.new-calls.result.book.now calls c.refine.new.calls.book.now) c.new-calls.ensures.caller did.2) c.refine.ensures in
    (first_stepped _ c.args.machinery.now _ c.index_mut-taker.result.now c.refine.new.taker c.index_mut-taker.ensures.value (search rules) refl refl, refl)
