use Rattle.std.proofs.Common.{◌≡◌}
use Rattle.g1_shared.specs.Callers.{caller_mark}
use Rattle.demo.proofs.under_a_lock.refine_each.Given as goal

abbrev pub invariant-loop : goal.invariant-loop
invariant-loop g l = caller_mark l.caller ≡ caller_mark l.fn.caller
