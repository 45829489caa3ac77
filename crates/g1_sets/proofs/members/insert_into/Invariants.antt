use Rattle.g1_sets.specs.{take, lists_of, rooms_of, HaveRoom, Joins, IsRowOf}
use Rattle.g1_sets.proofs.members.insert_into.Given as goal

abbrev pub invariant-loop-region : goal.invariant-loop-region
invariant-loop-region l = record {
  joins : Joins l.card (take l.region-index l.regions) (lists_of l.fn.sets) (lists_of l.sets);
  room : HaveRoom l.row (rooms_of l.sets) l.regions;
  row : IsRowOf (lists_of l.sets) l.card l.row;
}
