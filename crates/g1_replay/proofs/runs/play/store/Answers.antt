use Rattle.g1_replay.specs.{refl, rules, subst, CallsBy}
use Rattle.g1_shared.proofs.HelpLemmas.{store_as}
use Rattle.g1_replay.proofs.PlayedLemmas.{mutator_stepped}
use Rattle.g1_replay.proofs.runs.play.store.Goals as goal

pub returns : goal.returns
returns g c =
    let step = store_as _ (CallsBy c.args.mutator) _ _ _ c.new-calls.result.book.now c.store.new.calls.book.now _ _ _ _ _ _ (λ calls did. subst (λ n. CallsBy n c.new-calls.result.book.now calls c.store.new.calls.book.now) c.new-calls.ensures.caller did.2) c.store.ensures in
    mutator_stepped c.args.mutator _ c.args.machinery.now _ c.index_mut-caller.result.now c.store.new.self c.requires.mutator c.requires.mutators c.index_mut-caller.ensures.value (search rules) refl refl refl
