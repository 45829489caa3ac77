use Rattle.std.specs.Prelude.{◌≡◌}
use Rattle.g1_sets.specs.{take, lists_of, rooms_of, HaveRoom}
use Rattle.g1_sets.proofs.members.make_rooms.Given as goal

abbrev pub invariant-loop-region : goal.invariant-loop-region
invariant-loop-region l = record {
  cards : lists_of l.sets ≡ lists_of l.fn.sets;
  room : HaveRoom l.row (rooms_of l.sets) (take l.region-index l.regions);
}
