use Rattle.std.specs.Prelude.{◌<◌}
use Rattle.g1_replay.specs.{length, refl, rules}
use Rattle.g1_replay.proofs.{some_left}
use Rattle.g1_replay.proofs.scripts.next_script.Goals as goal

pub returns : goal.returns
returns c = λ all k e.
    let some : 0 < length c.args.scripts.now.items = search rules in
    let left = some_left k all c.args.scripts.now.items c.remove.new.self.items c.remove.result e some c.remove.ensures.value c.remove.ensures.items in
    ((c.remove.result, left.0, left.1, refl), left.2)
