use Rattle.std.proofs.lemmas.List.{with_items_is}
use Rattle.g1_replay.specs.{◌∙◌, ap, refl, length}
use Rattle.g1_replay.proofs.PlayedLemmas.{all_stopped, first_stepped}
use Rattle.g1_replay.proofs.runs.play.stop_all.Goals as goal

pub returns-clause-stand : goal.returns-clause-stand
returns-clause-stand g c =
    let now = with_items_is c.args.machinery.now.mutators c.stand_still.new.mutators (c.stand_still.auto.mutators ∙ c.as_mut_slice-mutators.ensures.len) in
    let seen = c.as_mut_slice-mutators.ensures.value in
    record {
      many = ap length now ∙ c.stand_still.auto.mutators ∙ ap length seen;
      stopped = all_stopped c.args.machinery.now.mutators.items c.as_mut_slice-mutators.result.now c.stand_still.new.mutators _ seen now c.stand_still.ensures.stopped;
      emptied = first_stepped _ c.args.machinery.now _ c.index_mut.result.now c.stand_still.new.taker c.index_mut.ensures.value (c.stand_still.ensures.same, c.stand_still.ensures.emptied) refl refl;
    }
