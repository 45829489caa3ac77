use Rattle.std.specs.Prelude.{◌≡◌, ◌+◌}
use Rattle.g1_sets.specs.{inl, length, ◌∙◌, subst, sym, take, take_all, lists_of, rooms_of, HaveRoom}
use Rattle.g1_sets.proofs.{room_more, within, lists_kept, rooms_more}
use Rattle.g1_sets.proofs.members.make_rooms.Goals as goal
use Rattle.g1_sets.proofs.members.make_rooms.Goals.{then-not-contains+in_ok-make_room, else-not-contains}

pub returns-in_err-make_room-clause-cards : goal.returns-in_err-make_room-clause-cards
returns-in_err-make_room-clause-cards c = lists_kept c.loop-region.sets c.number.result c.make_room.new.members c.index-sets-number.result c.make_room.ensures.cards ∙ c.loop-region.invariant.cards

pub loop-region-preserved : goal.loop-region-preserved
loop-region-preserved c = elim c.if-not-contains.branch [
  | then-not-contains+in_ok-make_room w ↦
      let inside = within c.args.regions.now c.loop-region.region-index c.region-item.result w.number.result (length c.args.sets.now) (length c.loop-region.sets) c.loop-region-test.true c.region-item.is w.number.ensures c.loop-region.auto.sets c.requires.within in
      record {
        cards = subst (λ sets. lists_of sets ≡ lists_of c.args.sets.now) (sym w.sets-is) (lists_kept c.loop-region.sets w.number.result w.make_room.new.members w.index-sets-number.result w.make_room.ensures.cards ∙ c.loop-region.invariant.cards);
        room = subst (λ sets. HaveRoom c.args.row.now (rooms_of sets) (take (c.loop-region.region-index + 1) c.args.regions.now)) (sym w.sets-is)
            (rooms_more c.loop-region.sets w.number.result w.make_room.new.members w.index-sets-number.result inside c.args.regions.now c.loop-region.region-index c.region-item.result c.loop-region-test.true c.region-item.is w.number.ensures
            c.args.row.now w.make_room.ensures.kept w.in_ok-make_room.ensures.room c.loop-region.invariant.room);
      }
  | else-not-contains w ↦ record {
    cards = subst (λ sets. lists_of sets ≡ lists_of c.args.sets.now) (sym w.sets-is) c.loop-region.invariant.cards;
    room = subst (λ sets. HaveRoom c.args.row.now (rooms_of sets) (take (c.loop-region.region-index + 1) c.args.regions.now)) (sym w.sets-is)
        (room_more c.args.row.now (rooms_of c.loop-region.sets) c.args.regions.now c.loop-region.region-index c.region-item.result c.loop-region-test.true c.region-item.is (inl (c.contains.ensures.0 w.if-not-contains.false)) c.loop-region.invariant.room);
  }
]

pub returns-clause-room : goal.returns-clause-room
returns-clause-room c = subst (λ rs. HaveRoom c.args.row.now (rooms_of c.loop-region.sets) rs) (take_all c.loop-region.region-index c.args.regions.now c.loop-region-test.false) c.loop-region.invariant.room
