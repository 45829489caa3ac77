use Rattle.std.specs.Prelude.{◌≡◌, ◌<◌, ◌≤◌}
use Rattle.g1_sets.specs.{◌∙◌, ap, sym, subst, length, slice_index, slice_set, get_or-set_same, spare, rooms_of}
use Rattle.g1_sets.proofs.{lists_kept, rooms_set, in_rooms}
use Rattle.g1_sets.proofs.members.make_room_for.Goals as goal

pub returns-in_err-reserve-clause-cards : goal.returns-in_err-reserve-clause-cards
returns-in_err-reserve-clause-cards c = lists_kept c.args.sets.now c.number.result c.reserve.new.self c.index-sets-number.result c.reserve.ensures.keys

pub returns-clause-cards : goal.returns-clause-cards
returns-clause-cards c = lists_kept c.args.sets.now c.number.result c.reserve.new.self c.index-sets-number.result c.reserve.ensures.keys

pub returns-clause-room : goal.returns-clause-room
returns-clause-room c =
    let within = subst (λ n. n < length c.args.sets.now) (sym c.number.ensures) c.requires in
    let room : slice_index (rooms_of (slice_set c.args.sets.now c.number.result c.reserve.new.self)) c.number.result ≡ spare c.reserve.new.self =
    ap (λ rooms. slice_index rooms c.number.result) (rooms_set c.args.sets.now c.number.result c.reserve.new.self)
    ∙ get_or-set_same (rooms_of c.args.sets.now) c.number.result (spare c.reserve.new.self) 0 (in_rooms c.args.sets.now c.number.result c.reserve.new.self c.index-sets-number.result within) in
    subst (λ n. c.args.more ≤ slice_index (rooms_of (slice_set c.args.sets.now c.number.result c.reserve.new.self)) n) c.number.ensures
    (subst (λ n. c.args.more ≤ n) (sym room) c.in_ok-reserve.ensures.ok)
