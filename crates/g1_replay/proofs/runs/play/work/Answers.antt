use Rattle.g1_replay.specs.{ap, refl, rules, subst, CallsBy}
use Rattle.g1_shared.proofs.CountLemmas.{work_as}
use Rattle.g1_replay.proofs.PlayedLemmas.{first_stepped}
use Rattle.g1_replay.proofs.runs.play.work.Goals as goal

pub returns : goal.returns
returns g c =
    let step = work_as _ (CallsBy 0) _ _ c.new-calls.result.book.now.machine.settings.start _ _ c.new-calls.result.book.now c.work.new.calls.book.now _ _ _ (search rules) (λ calls did. subst (λ n. CallsBy n c.new-calls.result.book.now calls c.work.new.calls.book.now) c.new-calls.ensures.caller did.2) (λ e. ap (λ s. s.book.now) e) c.work.ensures in
    (first_stepped _ c.args.machinery.now _ c.index_mut-taker.result.now c.work.new.taker c.index_mut-taker.ensures.value (search rules) refl refl, refl)
