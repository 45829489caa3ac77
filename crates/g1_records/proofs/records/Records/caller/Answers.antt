use Rattle.std.proofs.Common.{ap, arith}
use Rattle.g1_records.proofs.Owed.{makes}
use Rattle.g1_records.proofs.records.Records.caller.Goals as goal

pub split_seat-own-requires : goal.split_seat-own-requires
split_seat-own-requires c =
    let is = c.self.invariant.2 in
    (c.self.invariant.1, omega (arith, c.self.invariant.0), makes _ _ (ap (λ m. m.0.knows) is) (ap (λ m. m.0.calls) is))
