use Rattle.std.specs.Prelude.{◌≡◌, ◌≤◌, ◌*◌, ◌^◌, ◌⊎◌}
use Rattle.g1_log.specs.{false, length, map, fold, sum_by, view, IsPassOf, IsSamePass, newcomer, joined, sender_view, put_of}
use Rattle.g1_log.proofs.line.Line.gather_senders.Given as goal

abbrev pub invariant-loop-sender : goal.invariant-loop-sender
invariant-loop-sender l = record {
  of : IsPassOf l.self.queue l.pass;
  same : IsSamePass l.initial.pass l.pass;
  gathered_is : view l.pass ≡ fold joined newcomer (map sender_view l.yielded);
  gathers : (view l.pass ≡ newcomer) ⊎ ((view l.pass).fresh ≡ false);
  count : l.sent ≡ sum_by (λ s. length (put_of s)) l.yielded;
  bound : l.sent ≤ length l.yielded * 2 ^ 58;
}
