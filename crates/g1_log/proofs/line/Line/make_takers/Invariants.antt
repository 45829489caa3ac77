use Rattle.std.specs.Prelude.{◌≡◌, ◌+◌}
use Rattle.g1_log.specs.{length, sum_by, All, view, IsPassOf, maker, IsTakerOf, IsNewTaker, taker_rights}
use Rattle.g1_log.proofs.line.Line.make_takers.Given as goal

abbrev pub invariant-loop : goal.invariant-loop
invariant-loop l = record {
  of : IsPassOf l.self.queue l.maker_pass;
  maker_is : view l.maker_pass ≡ maker (view l.maker_pass).rights (view l.maker_pass).made;
  count : length l.takers.items + 1 ≡ l.counter;
  made : All (IsNewTaker l.self) l.takers.items;
  all : All (IsTakerOf l.self) l.takers.items;
  rights : sum_by taker_rights l.takers.items + (view l.maker_pass).rights ≡ (view l.initial.maker_pass).rights;
  left : sum_by taker_rights l.takers.items ≡ length l.takers.items;
}
