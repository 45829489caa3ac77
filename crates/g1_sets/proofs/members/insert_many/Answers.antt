use Rattle.std.specs.Prelude.{◌<◌, ◌≤◌}
use Rattle.g1_sets.specs.{◌∙◌, ap, sym, subst, length, slice_index, slice_set, list_at, with_cards, lists_of, rooms_of}
use Rattle.g1_sets.proofs.{lists_set, list_is, room_is}
use Rattle.g1_sets.proofs.members.insert_many.Goals as goal

pub insert_cards-requires : goal.insert_cards-requires
insert_cards-requires c =
    subst (λ n. length c.args.cards.now ≤ n) (room_is c.args.sets.now c.number.result c.index-sets-number.result c.index-sets-number.result (subst (λ n. n < length c.args.sets.now) (sym c.number.ensures) c.requires.within))
    (subst (λ n. length c.args.cards.now ≤ slice_index (rooms_of c.args.sets.now) n) (sym c.number.ensures) c.requires.room)

pub returns : goal.returns
returns c =
    let within = subst (λ n. n < length c.args.sets.now) (sym c.number.ensures) c.requires.within in
    let list = list_is c.args.sets.now c.number.result c.insert_cards.new.members c.index-sets-number.result within in
    lists_set c.args.sets.now c.number.result c.insert_cards.new.members
    ∙ ap (λ cards. slice_set (lists_of c.args.sets.now) c.number.result cards) (c.insert_cards.ensures ∙ ap (λ cards. with_cards cards c.args.cards.now) (sym list))
    ∙ ap (λ n. slice_set (lists_of c.args.sets.now) n (with_cards (list_at (lists_of c.args.sets.now) n) c.args.cards.now)) c.number.ensures
