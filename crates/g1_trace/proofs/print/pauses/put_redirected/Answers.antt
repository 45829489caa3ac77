use Rattle.std.specs.Prelude.{◌≡◌}
use Rattle.g1_trace.specs.{rules}
use Rattle.g1_trace.proofs.print.pauses.put_redirected.Goals as goal

pub returns : goal.returns
returns g c =
    let is : c.from.result ≡ c.args.slots = search rules in
    rw is at c.put_between.ensures
