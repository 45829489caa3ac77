use Rattle.std.specs.Prelude.{◌+◌}
use Rattle.g1_sets.specs.{length, subst, sym, take, slice_set, RegionSet, Gains, spare, lists_of, rooms_of, HaveRoom, Joins, IsRowOf}
use Rattle.g1_sets.proofs.{room_kept, row_joined, within, joins_next, joins_there, inserted, rooms_set, in_lists}
use Rattle.g1_sets.proofs.members.insert_into.Goals as goal
use Rattle.g1_sets.proofs.members.insert_into.Goals.{then-not-contains, else-not-contains}

pub loop-region-preserved : goal.loop-region-preserved
loop-region-preserved c = elim c.if-not-contains.branch [
  | then-not-contains w ↦
      let n = w.number.result in
      let sets = slice_set c.loop-region.sets n w.insert.new.members in
      let inside = within c.args.regions.now c.loop-region.region-index c.region-item.result n (length c.args.sets.now) (length c.loop-region.sets) c.loop-region-test.true c.region-item.is w.number.ensures c.loop-region.auto.sets c.requires.within in
      let gains : Gains c.loop-region.row n w.insert-then-not-contains.new.self = subst (λ m. Gains c.loop-region.row m w.insert-then-not-contains.new.self) (sym w.number.ensures) w.insert-then-not-contains.ensures in
      let row : IsRowOf (lists_of sets) c.args.card w.insert-then-not-contains.new.self =
      subst (λ ls. IsRowOf ls c.args.card w.insert-then-not-contains.new.self) (sym (inserted c.loop-region.sets n w.insert.new.members w.index-sets-number.result inside c.args.card w.insert.ensures.cards))
      (row_joined (lists_of c.loop-region.sets) c.args.card c.loop-region.row w.insert-then-not-contains.new.self n (in_lists c.loop-region.sets n w.insert.new.members w.index-sets-number.result inside) c.loop-region.invariant.row gains) in
      record {
        joins = subst (λ ss. Joins c.args.card (take (c.loop-region.region-index + 1) c.args.regions.now) (lists_of c.args.sets.now) (lists_of ss)) (sym w.sets-is)
            (joins_next c.loop-region.sets n w.insert.new.members w.index-sets-number.result inside c.args.regions.now c.loop-region.region-index c.region-item.result c.loop-region-test.true c.region-item.is w.number.ensures
            c.args.card w.insert.ensures.cards (lists_of c.args.sets.now) c.loop-region.invariant.joins);
        room = subst (λ ss. HaveRoom c.if-not-contains.row (rooms_of ss) c.args.regions.now) (sym w.sets-is) (subst (λ (r : RegionSet). HaveRoom r (rooms_of sets) c.args.regions.now) (sym w.row-is)
            (subst (λ ns. HaveRoom w.insert-then-not-contains.new.self ns c.args.regions.now) (sym (rooms_set c.loop-region.sets n w.insert.new.members))
            (room_kept (rooms_of c.loop-region.sets) c.args.regions.now n (spare w.insert.new.members) c.loop-region.row w.insert-then-not-contains.new.self gains c.loop-region.invariant.room)));
        row = subst (λ ss. IsRowOf (lists_of ss) c.args.card c.if-not-contains.row) (sym w.sets-is) (subst (IsRowOf (lists_of sets) c.args.card) (sym w.row-is) row);
      }
  | else-not-contains w ↦ record {
    joins = subst (λ ss. Joins c.args.card (take (c.loop-region.region-index + 1) c.args.regions.now) (lists_of c.args.sets.now) (lists_of ss)) (sym w.sets-is)
        (joins_there c.args.card c.args.regions.now c.loop-region.region-index c.region-item.result (lists_of c.args.sets.now) (lists_of c.loop-region.sets) c.loop-region-test.true c.region-item.is
        ((c.loop-region.invariant.row c.region-item.result).0 (c.contains.ensures.0 w.if-not-contains.false)) c.loop-region.invariant.joins);
    room = subst (λ ss. HaveRoom c.if-not-contains.row (rooms_of ss) c.args.regions.now) (sym w.sets-is) (subst (λ (r : RegionSet). HaveRoom r (rooms_of c.loop-region.sets) c.args.regions.now) (sym w.row-is) c.loop-region.invariant.room);
    row = subst (λ ss. IsRowOf (lists_of ss) c.args.card c.if-not-contains.row) (sym w.sets-is) (subst (IsRowOf (lists_of c.loop-region.sets) c.args.card) (sym w.row-is) c.loop-region.invariant.row);
  }
]
