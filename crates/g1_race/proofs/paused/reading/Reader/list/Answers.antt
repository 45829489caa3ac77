-- The list has each card that is found, and no other.
use Rattle.std.specs.Prelude.{◌∷◌, ◌++◌}
use Rattle.g1_race.specs.{ℕ, [], ap, ◌∙◌, arith, is_sought}
use Rattle.g1_race.proofs.{list_end, list_on, room_on}
use Rattle.g1_race.proofs.paused.reading.Reader.list.Goals as goal

pub push_reserved-requires : goal.push_reserved-requires
push_reserved-requires c =
    let i = c.loop-card.invariant in
    let more = room_on (is_sought c.args.sought c.args.race.now.shape) c.args.race.now.shape.cards c.loop-card.from (ap (λ r. r.start.words) i.same) c.in-Some.card c.loop-card.cards.items c.in-Some.ensures.next i.listed in
    omega (arith, more, i.room, c.requires.room)

pub loop-card-preserved : goal.loop-card-preserved
loop-card-preserved c = let i = c.loop-card.invariant in record {
  same = c.next_sought.ensures.same ∙ i.same;
  within = omega (arith, c.in-Some.ensures.next.1);
  listed = c.push_reserved.ensures.items ∙ (ap (λ (n : ℕ). c.loop-card.cards.items ++ n ∷ []) c.card_at.ensures ∙ list_on (is_sought c.args.sought c.args.race.now.shape) c.args.race.now.shape.cards c.loop-card.from (ap (λ r. r.start.words) i.same) c.in-Some.card c.loop-card.cards.items c.in-Some.ensures.next i.listed);
  room = c.push_reserved.ensures.capacity ∙ i.room;
}

pub returns-clause-cards : goal.returns-clause-cards
returns-clause-cards c = let i = c.loop-card.invariant in list_end (is_sought c.args.sought c.args.race.now.shape) c.args.race.now.shape.cards c.loop-card.from (ap (λ r. r.start.words) i.same) c.loop-card.cards.items i.within c.in_default.ensures.next i.listed
