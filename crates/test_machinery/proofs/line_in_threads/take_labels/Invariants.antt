use Rattle.std.proofs.Common.{◌≡◌}
use Rattle.g1_log.specs.Ends.{IsTakerOf, taker_rights}
use Rattle.test_machinery.proofs.line_in_threads.take_labels.Given as goal

abbrev pub invariant-loop : goal.invariant-loop
invariant-loop g l = IsTakerOf l.line l.taker × (taker_rights l.taker ≡ taker_rights l.initial.taker)
