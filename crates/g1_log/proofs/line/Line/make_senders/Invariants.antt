use Rattle.std.specs.Prelude.{◌≡◌, ◌-◌}
use Rattle.g1_log.specs.{length, sum_by, All, view, IsPassOf, IsSamePass, maker, whole, IsSenderOf, AreNewSenders, sender_rights}
use Rattle.g1_log.proofs.line.Line.make_senders.Given as goal

abbrev pub invariant-loop-number : goal.invariant-loop-number
invariant-loop-number l = record {
  of : IsPassOf l.self.queue l.maker_pass;
  same : IsSamePass l.initial.maker_pass l.maker_pass;
  maker_is : view l.maker_pass ≡ maker (whole - l.number) l.number;
  count : length l.senders.items ≡ l.number;
  made : AreNewSenders l.self 0 l.senders.items;
  all : All (IsSenderOf l.self) l.senders.items;
  rights : sum_by sender_rights l.senders.items ≡ l.number;
}
