use Rattle.std.specs.Prelude.{◌<◌, ◌∷◌}
use Rattle.g1_sets.specs.{[], refl, subst, sym, length, arith, spare, Gains, lists_of, rooms_of, HaveRoom, IsRowOf}
use Rattle.g1_sets.proofs.ListLemmas.{joins_none}
use Rattle.g1_sets.proofs.{room_kept, row_joined, joins_next, inserted, rooms_set, in_lists, lists_kept, on_err}
use Rattle.g1_sets.proofs.members.insert_first.Goals as goal

pub returns-in_err-insert_growing-clause-err : goal.returns-in_err-insert_growing-clause-err
returns-in_err-insert_growing-clause-err c = on_err _ c.from_residual.result (lists_kept c.args.sets.now c.number.result c.insert_growing.new.members c.index-sets-number.result c.in_err-insert_growing.ensures.err)

pub returns-clause-joins : goal.returns-clause-joins
returns-clause-joins c =
    let inside = subst (λ n. n < length c.args.sets.now) (sym c.number.ensures) c.requires.within in
    joins_next c.args.sets.now c.number.result c.insert_growing.new.members c.index-sets-number.result inside (c.args.region ∷ []) 0 c.args.region (omega arith) refl c.number.ensures c.args.card c.in_ok-insert_growing.ensures.cards
    (lists_of c.args.sets.now) (joins_none c.args.card (lists_of c.args.sets.now))

pub returns-clause-row : goal.returns-clause-row
returns-clause-row c =
    let inside = subst (λ n. n < length c.args.sets.now) (sym c.number.ensures) c.requires.within in
    let gains : Gains c.args.row.now c.number.result c.insert.new.self = subst (λ n. Gains c.args.row.now n c.insert.new.self) (sym c.number.ensures) c.insert.ensures in
    subst (λ ls. IsRowOf ls c.args.card c.insert.new.self) (sym (inserted c.args.sets.now c.number.result c.insert_growing.new.members c.index-sets-number.result inside c.args.card c.in_ok-insert_growing.ensures.cards))
    (row_joined (lists_of c.args.sets.now) c.args.card c.args.row.now c.insert.new.self c.number.result (in_lists c.args.sets.now c.number.result c.insert_growing.new.members c.index-sets-number.result inside) c.requires.row gains)

pub returns-clause-room : goal.returns-clause-room
returns-clause-room c =
    let gains : Gains c.args.row.now c.number.result c.insert.new.self = subst (λ n. Gains c.args.row.now n c.insert.new.self) (sym c.number.ensures) c.insert.ensures in
    λ regions before. subst (λ ns. HaveRoom c.insert.new.self ns regions) (sym (rooms_set c.args.sets.now c.number.result c.insert_growing.new.members))
    (room_kept (rooms_of c.args.sets.now) regions c.number.result (spare c.insert_growing.new.members) c.args.row.now c.insert.new.self gains before)
