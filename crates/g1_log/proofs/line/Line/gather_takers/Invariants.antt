use Rattle.std.specs.Prelude.{◌≡◌, ◌⊎◌}
use Rattle.g1_log.specs.{false, map, fold, view, IsPassOf, IsSamePass, newcomer, joined, taker_view}
use Rattle.g1_log.proofs.line.Line.gather_takers.Given as goal

abbrev pub invariant-loop-taker : goal.invariant-loop-taker
invariant-loop-taker l = record {
  of : IsPassOf l.self.queue l.pass;
  same : IsSamePass l.initial.pass l.pass;
  gathered_is : view l.pass ≡ fold joined (view l.initial.pass) (map taker_view l.yielded);
  gathers : (view l.pass ≡ newcomer) ⊎ ((view l.pass).fresh ≡ false);
}
